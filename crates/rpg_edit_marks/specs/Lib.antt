pub mod Code
pub mod Edited
pub mod How
pub mod Word
