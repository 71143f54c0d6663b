pub mod CodeTexts
pub mod Format
pub mod Indicators
pub mod Instructions
pub mod Numbers
pub mod Operands
pub mod Reading
pub mod Shapes
