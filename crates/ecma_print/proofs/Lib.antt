pub mod EscapedLemmas
pub mod LineLemmas
pub mod ObjectLemmas
