pub mod Alone
pub mod ByFlag
pub mod Known
pub mod Rereads
pub mod Roles
