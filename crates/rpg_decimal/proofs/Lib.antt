pub mod LawLemmas
pub mod MoveLemmas
mod OrderLemmas
pub mod PlaceLemmas
mod QuotientLemmas
mod Ranks
mod SumLemmas
mod Table
pub mod WholeLemmas
pub mod ZonedLemmas
