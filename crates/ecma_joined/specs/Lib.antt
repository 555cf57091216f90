pub mod Joined
pub use Rattle.ecma_clean.specs.Canonical
pub use Rattle.ecma_clean.specs.Clean
pub use Rattle.ecma_clean.specs.Sharing
pub use Rattle.ecma_clean.specs.Stages
