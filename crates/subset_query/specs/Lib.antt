pub mod Forms
pub mod Checks
pub mod Walks
pub mod Keys
pub mod Printed
pub mod FormLaws
pub mod Settling
