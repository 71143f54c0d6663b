pub mod Found
pub mod Labels
pub mod Lines
pub mod Results
