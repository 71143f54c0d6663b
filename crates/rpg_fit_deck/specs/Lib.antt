pub mod Changing
pub mod Columns
pub mod Kept
pub mod Laws
pub mod New
pub mod Rules
pub mod Stopping
pub mod Words
