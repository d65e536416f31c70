pub mod Fields
pub mod FirstAgain
pub mod ReaderSteps
pub mod RecordSteps
