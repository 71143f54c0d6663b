pub mod Reasons
pub mod Turns
