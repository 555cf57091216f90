pub mod Atom
pub mod Comment
