pub mod ApartLemmas
pub mod CalculationLemmas
pub mod FileLemmas
pub mod LimitRule
pub mod SheetLemmas
pub mod StorageLemmas
