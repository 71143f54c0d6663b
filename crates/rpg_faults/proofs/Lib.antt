pub mod EveryLemmas
pub mod LeastLemmas
pub mod Numbering
mod ReportedLemmas
