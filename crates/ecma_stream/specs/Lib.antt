pub mod Giving
pub mod View
pub use Rattle.ecma_plain.specs.Plain
pub use Rattle.ecma_reads.specs.Expressions
pub use Rattle.ecma_reads.specs.Fronts
pub use Rattle.ecma_reads.specs.Pieces
