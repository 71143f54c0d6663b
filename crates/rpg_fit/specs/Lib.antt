pub mod Applied
pub mod Faults
