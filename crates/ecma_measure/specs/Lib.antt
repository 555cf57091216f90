pub mod Begin
pub mod Command
pub mod Reply
