pub mod ContextPairLemmas
pub mod SharedPairsLemmas
