pub mod Inputs
pub mod Lines
pub mod Operations
pub mod Outputs
pub mod Rows
pub mod Used
pub mod Worlds
