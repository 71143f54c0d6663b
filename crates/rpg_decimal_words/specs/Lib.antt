pub mod Fraction
pub mod Move
pub mod Order
pub mod Place
pub mod Whole
pub mod Zoned
