-- The records of an input, what a reader and a writer did, and how records are read.
pub mod Answers
pub mod Buffers
pub mod Counting
pub mod FirstLine
pub mod NextLine
pub mod Reading
pub mod Reads
pub mod Records
pub mod Sending
