pub mod Refusal
pub mod Writer
