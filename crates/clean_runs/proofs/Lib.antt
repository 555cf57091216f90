pub mod Alike
pub mod CanonicalLaws
pub mod KeptLemmas
pub mod PartsLaws
pub mod Sharing
pub mod WalkLemmas
