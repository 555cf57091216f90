pub mod ReadLemmas
pub mod StreamLemmas
pub mod TokenLemmas
pub mod WholeLemmas
pub mod CanonicalLemmas
pub mod FaultLemmas
pub mod HtmlLemmas
pub mod JoinedLemmas
