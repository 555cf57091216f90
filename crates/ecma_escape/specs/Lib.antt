pub mod EscapeMeanings
pub mod EscapeParts
pub mod PieceParts
