pub mod FileNames
pub mod Options
