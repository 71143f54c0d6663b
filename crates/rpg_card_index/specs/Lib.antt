pub mod Index
pub mod Totals
