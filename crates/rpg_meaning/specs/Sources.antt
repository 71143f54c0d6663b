pub mod Law
pub mod Printing
pub mod Running
