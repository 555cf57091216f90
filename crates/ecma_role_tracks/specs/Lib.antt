pub mod Rank
pub mod Slashes
pub mod Track
