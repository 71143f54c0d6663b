-- What is wrong with an object, what the engine rejects, what it reports of a run, and what a run does cycle by cycle. Also the
-- definitions from lower crates that a caller needs.
pub mod Devices
pub mod Faults
pub mod Inputs
pub mod Objects
pub mod Outputs
pub mod Refusing
pub mod Reporting
pub mod Running
pub mod Sending
pub mod Streaming
pub use Rattle.rpg_cycle.specs.Starting
pub use Rattle.rpg_cycle.specs.declared.ends.JobEnd
pub use Rattle.rpg_program.specs.Halts
pub use Rattle.rpg_object_format.specs.CodeTexts
pub use Rattle.rpg_program.specs.Object
pub use Rattle.rpg_verify.specs.Bound
pub use Rattle.rpg_verify_rules.specs.Rules
