mod CardLemmas
mod EditLemmas
mod FileLemmas
mod FittedLemmas
mod KindLemmas
mod LayoutLemmas
pub mod OutcomeLemmas
pub mod SeenLemmas
pub mod TypeLemmas
