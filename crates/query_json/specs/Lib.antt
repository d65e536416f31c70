pub mod Objects
pub mod Values
pub mod Operators
pub mod Conditions
pub mod Queries
pub mod Requests
pub mod Steps
