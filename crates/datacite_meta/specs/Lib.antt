pub mod Stamps
pub mod Metadata
