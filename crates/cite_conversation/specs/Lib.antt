pub mod Turns
pub mod Streams
pub mod Conversations
pub mod Steps
