pub mod Lines
pub mod Types
