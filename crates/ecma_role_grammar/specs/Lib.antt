pub mod Grammar
pub mod Laws
pub mod Samples
pub mod Tokens
