pub mod AloneLemmas
pub mod PlainLemmas
