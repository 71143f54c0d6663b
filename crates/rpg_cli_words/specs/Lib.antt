-- What outputs replace.
pub mod Outputs
