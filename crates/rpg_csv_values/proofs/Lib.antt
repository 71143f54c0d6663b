-- Lemmas about numbers.
mod NumberLemmas
mod ContentLemmas
