pub mod Fields
pub mod Indexes
pub mod Indicators
pub mod Names
pub mod Operands
pub mod Sizes
