pub mod PlainTemplateFound
pub mod TemplateFound
pub mod TemplateLaws
pub mod TemplatePieces
pub mod VerbatimPieces
