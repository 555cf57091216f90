pub mod Alone
pub mod PunctuatorKinds
