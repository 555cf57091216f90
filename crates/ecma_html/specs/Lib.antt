pub mod Laws
pub mod Marked
pub mod Markup
pub mod Page
pub mod Parts
pub mod Text
pub mod Unmark
