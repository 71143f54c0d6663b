pub mod AtRows
pub mod Exact
pub mod First
pub mod HasLine
pub mod HasPlace
pub mod HasSubroutine
pub mod HasType
