pub mod PlainNumbers
pub mod WrittenNumbers
