pub mod Escaped
pub mod Faults
pub mod Numbers
pub mod Sending
