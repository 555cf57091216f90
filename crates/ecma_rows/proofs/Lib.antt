pub mod TokenViews
pub mod RoomLemmas
pub mod RowLemmas
pub mod Judging
pub mod CanonCases
pub mod ErrorLemmas
pub mod ModuleLemmas
