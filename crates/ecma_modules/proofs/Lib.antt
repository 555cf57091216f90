pub mod GoOnLemmas
pub mod PassLemmas
pub mod PlaceLemmas
pub mod ScanLemmas
