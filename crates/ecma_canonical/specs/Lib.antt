pub mod Canonical
pub mod Watching
pub use Rattle.ecma_state.specs.Clean
pub use Rattle.ecma_joined.specs.Sharing
