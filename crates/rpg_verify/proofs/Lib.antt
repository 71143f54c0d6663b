pub mod AllRules
pub mod LeastLaws
pub mod Left
pub mod Most
pub mod PathCosts
pub mod Placing
pub mod Sizes
pub mod Walking
