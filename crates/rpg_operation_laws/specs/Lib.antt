pub mod Found
pub mod Labels
pub mod Output
pub mod Results
