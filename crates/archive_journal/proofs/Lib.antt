pub mod Images
pub mod Opening
pub mod Parts
pub mod Places
pub mod Steps
pub mod Unique
