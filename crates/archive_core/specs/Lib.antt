pub mod Keeping
pub mod Answering
pub mod Writing
pub mod Opening
