-- Records as lines.
pub mod Back
pub mod Conversions
pub mod Converters
pub mod Cuts
pub mod Frames
pub mod Inputs
pub mod Lines
pub mod Numbers
pub mod Outcomes
pub mod Records
pub mod Texts
pub mod Ways
pub use Rattle.rpg_records.specs.Types
