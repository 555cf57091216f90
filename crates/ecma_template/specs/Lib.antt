pub mod PlainTemplates
pub mod VerbatimTexts
pub mod WrittenTemplates
