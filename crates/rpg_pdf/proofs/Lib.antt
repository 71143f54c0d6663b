-- Lemmas on texts, the objects of a PDF, and on what becomes of a print.
pub mod MadeLemmas
pub mod ObjectLemmas
pub mod PageLemmas
pub mod PrintLemmas
pub mod TextLemmas
