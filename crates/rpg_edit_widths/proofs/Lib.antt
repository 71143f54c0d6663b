pub mod Codes
pub mod Places
pub mod Words
