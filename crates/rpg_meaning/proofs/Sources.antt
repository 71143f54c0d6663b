pub mod Composed
pub mod Kept
pub mod Stopping
