pub mod Lines
pub mod Rows
pub mod Units
pub mod Values
