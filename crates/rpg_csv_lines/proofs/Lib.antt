-- Lemmas about faults.
mod StopLemmas
