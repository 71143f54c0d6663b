pub mod Codes
pub mod FirstForms
pub mod Marking
pub mod Unnamed
pub mod UpTo
