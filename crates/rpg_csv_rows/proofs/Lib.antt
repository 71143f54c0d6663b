mod CellLemmas
mod InputLemmas
mod QuoteLemmas
