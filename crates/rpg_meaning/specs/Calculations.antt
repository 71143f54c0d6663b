pub mod Agreement
pub mod Laws
pub mod Meaning
pub mod NextCard
pub mod Parts
pub mod Sections
pub mod Sources
pub mod Translation
