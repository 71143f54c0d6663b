pub mod Blanks
mod LineFeeds
pub mod LineLemmas
