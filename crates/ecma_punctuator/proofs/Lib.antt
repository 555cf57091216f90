pub mod AloneLemmas
pub mod PunctuatorLaws
pub mod ShebangLaws
pub mod ShebangLemmas
