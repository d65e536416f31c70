pub mod Headers
pub mod Lines
pub mod LineKeys
pub mod Collecting
pub mod Bodies
pub mod FirstLines
pub mod WholeBodies
