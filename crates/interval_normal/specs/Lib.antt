pub mod Cross
pub mod Ends
pub mod Flip
pub mod Joined
pub mod Points
pub mod PrefixEnds
pub mod Spans
