pub mod PlainRuns
pub mod PlainStrings
