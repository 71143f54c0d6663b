pub mod Calculations
pub mod Cards
pub mod Files
pub mod FirstValues
pub mod Forms
pub mod Lines
pub mod RecordTypes
pub mod Sections
