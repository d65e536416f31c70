pub mod Records
pub mod Cells
pub mod Keys
