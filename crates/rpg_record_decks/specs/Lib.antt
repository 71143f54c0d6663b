-- The deck that leads a conversion of records.
pub mod Cards
pub mod Edits
pub mod Files
pub mod Fitted
pub mod Kinds
pub mod Layouts
pub mod Outcomes
pub mod Reading
pub mod Types
