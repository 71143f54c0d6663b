pub mod Bound
pub mod Greatest
pub mod Paths
pub mod Placed
pub mod Verified
pub mod Weighing
