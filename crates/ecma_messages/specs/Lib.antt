pub mod Encoding
pub mod Jsx
pub mod Visible
