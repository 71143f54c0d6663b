-- Lemmas on runs that are kept from beginning, and on those whose writers are flushed.
pub mod Flushing
pub mod Stopping
