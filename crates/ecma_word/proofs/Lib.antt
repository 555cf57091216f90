pub mod ShortLemmas
pub mod Words
