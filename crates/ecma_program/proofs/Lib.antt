pub mod Gathering
pub mod Listing
pub mod RereadLemmas
pub mod CanonAgain
pub mod Covering
pub mod Keeping
pub mod Replies
