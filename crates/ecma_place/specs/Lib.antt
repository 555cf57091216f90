pub mod Character
pub mod Cursor
pub mod Run
pub mod Text
pub use Rattle.ecma_span.specs.Atom
pub use Rattle.ecma_span.specs.Comment
