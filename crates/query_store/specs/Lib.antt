pub mod Citations
pub mod Places
pub mod Picks
