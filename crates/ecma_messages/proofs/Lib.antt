pub mod CharLemmas
pub mod JsxLemmas
