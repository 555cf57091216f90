pub mod BoundariesLaws
pub mod CodeKindsLaws
pub mod CodeLaws
pub mod FaultlessLaws
pub mod OwnContextsLemmas
pub mod SeparatorsLaws
pub mod TextsLaws
