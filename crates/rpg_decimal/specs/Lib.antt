pub mod Laws
pub mod Num
pub mod Source
