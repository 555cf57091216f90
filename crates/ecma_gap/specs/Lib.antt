pub mod BlankGaps
pub mod GapRecords
