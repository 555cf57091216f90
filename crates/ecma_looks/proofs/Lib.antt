pub mod PartLemmas
pub use Rattle.ecma_pieces.proofs.CoveredLemmas
