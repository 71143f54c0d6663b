-- What a source is warned of, as definitions.
pub mod Devices
pub mod Digits
pub mod Files
pub mod Halts
pub mod Indicators
pub mod Marks
pub mod Warned
pub mod Warnings
