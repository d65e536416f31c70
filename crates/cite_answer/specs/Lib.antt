pub mod Words
pub mod Bodies
pub mod Replies
pub mod Reads
pub mod Messages
pub mod Fates
pub mod Parts
