pub mod AttachedLemmas
pub mod CollectedLemmas
pub mod CoveredLemmas
pub mod ElementPlaces
pub mod ListLemmas
pub mod ReadLemmas
