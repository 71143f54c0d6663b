-- What the program prints.
pub mod Saying
