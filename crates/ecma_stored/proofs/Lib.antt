pub mod KindLemmas
pub mod StoredLemmas
