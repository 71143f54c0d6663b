pub mod Filling
pub mod InputEntries
pub mod Plain
