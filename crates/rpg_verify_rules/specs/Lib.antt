pub mod Accepted
pub mod Indicators
pub mod Least
pub mod LineRules
pub mod PlaceRules
pub mod Rules
pub mod Sound
pub mod TypeRules
