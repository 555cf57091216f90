mod CanonicalRows
mod CleanRows
pub mod Disposed
pub mod ReadsAs
pub mod Spoiling
pub mod TokensRead
pub use Rattle.ecma_parts.proofs.InstanceLaws
pub use Rattle.ecma_parts.proofs.EndLemmas
pub use Rattle.ecma_parts.proofs.SlashLemmas
pub use Rattle.ecma_parts.proofs.NumberRules
