pub mod CleanLemmas
pub mod KeptPlaces
pub mod WatchLemmas
