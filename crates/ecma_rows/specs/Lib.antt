pub mod Asked
pub mod Canon
pub mod ErrorRows
pub mod ModuleRows
pub mod Rows
pub mod Told
