pub mod ExpectedLemmas
pub mod FoldLemmas
pub mod ItemLemmas
pub mod ReaderLemmas
pub mod TextLemmas
pub mod TokenLemmas
pub use Rattle.ecma_slashes.proofs.PlainRuns
pub use Rattle.ecma_slashes.proofs.SlashLemmas
