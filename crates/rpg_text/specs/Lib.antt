pub mod Texts
pub mod Lines
