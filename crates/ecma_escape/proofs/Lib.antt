pub mod EscapeBytes
pub mod EscapeForms
pub mod EscapeReading
pub mod EscapeSpans
pub mod PieceReading
pub mod StringFound
pub mod StringLaws
pub mod StringReading
