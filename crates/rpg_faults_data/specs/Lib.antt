pub mod Causes
pub mod Data
pub mod Decks
pub mod Entries
