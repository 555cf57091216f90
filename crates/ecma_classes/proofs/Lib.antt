pub mod ApartLemmas
pub mod CoverLemmas
pub mod MemberLemmas
pub mod MergeLemmas
pub mod OrderLemmas
pub mod TileLemmas
pub mod WalkLemmas
