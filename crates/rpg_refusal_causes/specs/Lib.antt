pub mod Causes
pub mod First
pub mod LineCauses
pub mod PlaceCauses
pub mod SubroutineCauses
pub mod TypeCauses
