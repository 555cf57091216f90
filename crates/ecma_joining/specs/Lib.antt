pub mod Boundaries
pub mod Code
pub mod CodeKinds
pub mod Faultless
pub mod OwnContexts
pub mod Separators
pub mod Texts
