-- How a conversion ends.
pub mod Stops
