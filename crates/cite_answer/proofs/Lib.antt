pub mod Described
pub mod ReplyLaws
pub mod Finding
pub mod Faring
pub mod Telling
pub mod Texts
