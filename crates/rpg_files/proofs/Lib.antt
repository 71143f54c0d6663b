-- Lemmas on records.
pub mod Advancing
pub mod Calls
pub mod Characters
pub mod Filling
pub mod FirstLines
pub mod Lines
pub mod Searching
