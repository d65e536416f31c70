pub mod Prefixes
pub mod Names
pub mod Parts
