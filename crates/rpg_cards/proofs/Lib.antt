pub mod FieldLemmas
pub mod FirstLemmas
pub mod GroupEnds
pub mod GroupLemmas
pub mod InsertLemmas
pub mod ItemLemmas
