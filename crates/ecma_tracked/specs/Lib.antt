pub mod Items
pub mod Marked
pub mod Marks
pub mod Runs
pub mod States
pub mod Tracked
