pub mod ByFlag
pub mod ByNumber
pub mod ByRole
pub mod ByRule
