pub mod Cycle
pub mod Job
pub mod Meant
pub mod Phases
pub mod Runs
pub mod Sources
pub mod Start
