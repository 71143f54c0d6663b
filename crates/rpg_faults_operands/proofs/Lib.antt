pub mod ValidLemmas
pub mod Listed
pub mod SizeLemmas
pub mod Ranges
