pub mod Listed
pub mod NameLemmas
pub mod NewNames
pub mod Options
pub mod Tests
