-- Lemmas on spelled programs.
pub mod Spelled
