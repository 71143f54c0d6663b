-- Lemmas on cycles, on runs under way, and on what was read and sent.
pub mod Bytes
pub mod Courses
pub mod Flows
pub mod Flushing
pub mod Headline
pub mod Outputs
pub mod Passing
pub mod Refusing
pub mod Seen
pub mod Sent
pub mod Stopping
pub mod Streams
pub mod Taking
pub mod Whose
