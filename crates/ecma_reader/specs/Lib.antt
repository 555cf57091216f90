pub mod Items
pub mod Outputs
pub mod Readers
pub use Rattle.ecma_slashes.specs.ByFlag
pub use Rattle.ecma_slashes.specs.Rereads
