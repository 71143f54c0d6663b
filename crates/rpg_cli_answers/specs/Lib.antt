-- The lines and exit statuses of answers, and the fault of a file that an argument names.
pub mod Answers
pub mod Json
pub mod Named
