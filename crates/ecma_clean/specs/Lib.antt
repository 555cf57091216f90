pub mod Rules
pub mod Sharing
pub use Rattle.ecma_clean_reads.specs.Bearing
pub use Rattle.ecma_clean_reads.specs.Canonical
pub use Rattle.ecma_state.specs.Clean
pub use Rattle.ecma_clean_reads.specs.Stages
