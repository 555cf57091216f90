pub mod RankLemmas
pub mod RowRanks
pub mod TrackLemmas
pub mod TrackedLemmas
