pub mod JoinedLemmas
pub use Rattle.ecma_clean.proofs.CanonicalLaws
