pub mod KindsAt
pub mod Stored
