-- The answers of a job, its date, its limit and its files.
pub mod Dated
pub mod Flushing
pub mod Keeping
pub mod Limits
pub mod Running
pub mod Wanted
