pub mod CardFiles
pub mod JoinRule
pub mod JoinedLemmas
pub mod LevelLemmas
pub mod MatchLemmas
pub mod OpenTypes
pub mod Ranges
pub mod TypeLemmas
