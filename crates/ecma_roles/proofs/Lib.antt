pub mod FastLemmas
pub mod FastWordLemmas
