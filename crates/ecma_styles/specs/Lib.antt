pub mod Beside
pub mod Roles
pub mod Styles
pub mod Tokens
