pub mod CanonicalLaws
pub mod RuleLaws
pub mod WalkedEnd
pub mod WalkedRuns
pub mod WalkedTokens
pub mod Walking
