pub mod Digits
pub mod FixedInputs
pub mod Inputs
