pub mod Calls
pub mod Known
pub mod Modules
pub mod Places
pub mod Regions
pub mod Scans
pub mod Statements
