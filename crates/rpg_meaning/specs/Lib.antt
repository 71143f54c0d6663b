pub mod Calculations
pub mod Calls
pub mod Jobs
pub mod Operations
pub mod Sheets
pub mod Sources
