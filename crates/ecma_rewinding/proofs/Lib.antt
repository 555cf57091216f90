pub mod RewindingLemmas
