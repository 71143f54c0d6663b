mod FileLemmas
mod IndexLemmas
pub mod PlaceLemmas
pub mod TotalLemmas
