-- Lemmas on the entries of fields.
pub mod Entries
