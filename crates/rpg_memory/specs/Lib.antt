pub mod Codes
pub mod Doing
pub mod Fields
pub mod Fits
pub mod Marked
pub mod Memory
pub mod Silent
