pub mod Parts
pub mod Rows
pub mod Within
