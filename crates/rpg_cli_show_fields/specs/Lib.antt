-- Whether an object program uses the date of its job.
pub mod DateUse
