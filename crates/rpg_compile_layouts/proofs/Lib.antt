pub mod Followers
pub mod LineFollowers
pub mod Rows
