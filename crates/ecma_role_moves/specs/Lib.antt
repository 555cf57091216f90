pub mod Moves
pub mod Nest
