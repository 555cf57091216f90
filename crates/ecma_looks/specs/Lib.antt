pub mod Looks
pub mod Marks
pub mod Shown
pub use Rattle.ecma_pieces.specs.Covered
