pub mod Operands
pub mod Taken
