-- Rows of comma-separated values: where they end, their cells, and how cells are written.
pub mod Cells
pub mod Inputs
pub mod Quoting
pub mod Rows
