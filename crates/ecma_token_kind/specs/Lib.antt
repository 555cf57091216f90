pub mod KindNames
pub mod Questions
pub use Rattle.ecma_word.specs.Operators
pub use Rattle.ecma_word.specs.Word
