-- Packed and binary fields of output files.
pub mod Arrays
pub mod Bytes
pub mod Changes
pub mod Digits
