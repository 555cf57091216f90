pub mod LineLemmas
pub mod UnitLemmas
