pub mod FaultLemmas
pub mod OrderLemmas
pub mod PartLemmas
pub mod ReportLemmas
pub mod UnmetLemmas
pub mod WholeLemmas
