pub mod Causes
pub mod FileCauses
pub mod Files
pub mod Limits
pub mod Names
pub mod Sheets
pub mod State
