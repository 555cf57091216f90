pub mod ArmLemmas
pub mod CheckpointLemmas
pub mod LexerLemmas
pub use Rattle.ecma_reads.proofs.EndLemmas
pub use Rattle.ecma_reads.proofs.EndingLemmas
pub use Rattle.ecma_reads.proofs.SlashLemmas
