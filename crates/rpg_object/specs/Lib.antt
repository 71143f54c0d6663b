pub mod Decoding
pub mod Fields
pub mod FirstValues
pub mod Header
pub mod Program
pub mod Subroutines
