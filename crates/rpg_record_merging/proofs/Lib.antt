-- Lemmas about the next record.
mod OrderLemmas
