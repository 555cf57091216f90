pub mod MarkedLemmas
pub mod MarkupLemmas
pub mod PageLemmas
