pub mod GoingOnLemmas
pub mod OverLemmas
pub mod RestLemmas
pub mod ResumingLemmas
