pub mod Exports
pub mod Imports
pub mod Parts
pub mod Rows
pub mod Table
pub mod Variables
