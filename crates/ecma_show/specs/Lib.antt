pub mod Colours
pub mod Painted
pub mod Shown
pub mod Unshown
