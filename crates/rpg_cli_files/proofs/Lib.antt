-- Lemmas on parts of an output.
pub mod Parts
