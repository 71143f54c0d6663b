pub mod DataRule
pub mod DeckLemmas
pub mod EntryLemmas
pub mod EntryWalk
pub mod NumberLemmas
