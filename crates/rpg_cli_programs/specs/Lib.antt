-- The answers for sources and objects, given their bytes.
pub mod Judging
pub mod Spelling
