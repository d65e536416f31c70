pub mod Numbers
pub mod Indexing
pub mod Candidates
pub mod Forms
