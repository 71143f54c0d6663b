pub mod ByCard
pub mod Flow
pub mod Index
pub mod Labels
pub mod Order
pub mod Strays
