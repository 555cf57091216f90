pub mod GatheredLemmas
pub mod JoinedLemmas
pub mod ReplayLemmas
pub mod ReplayTiling
pub mod WayLemmas
