pub mod Digits
pub mod Escaping
pub mod Halting
pub mod Numbers
pub mod Runs
pub mod TextReplies
pub mod Writing
