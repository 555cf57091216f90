pub mod KindLemmas
pub mod MessageLemmas
