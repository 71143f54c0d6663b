pub mod Fresh
pub mod Indicators
pub mod Names
pub mod Stops
