pub mod NameReading
pub mod NameRuns
pub mod ShortReading
pub mod WordLaws
pub mod WordReading
