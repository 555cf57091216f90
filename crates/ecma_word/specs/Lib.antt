pub mod Keyword
pub mod KnownIdent
pub mod Laws
pub mod Operators
pub mod ShortWords
pub mod Table
pub mod Word
