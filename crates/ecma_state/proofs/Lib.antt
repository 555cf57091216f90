pub mod ErrorLemmas
pub mod LookaheadLemmas
