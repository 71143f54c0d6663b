-- Dates of six digits; the codes of warnings, and sets of them.
pub mod Codes
pub mod Dates
