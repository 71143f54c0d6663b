-- What lines and results are warned of, as definitions.
pub mod Alternatives
pub mod Kinds
pub mod LineWarnings
pub mod Marks
pub mod Overlaps
pub mod Pages
pub mod Printer
pub mod Sums
pub mod Totals
pub mod Unheld
pub mod Unused
pub mod Uses
