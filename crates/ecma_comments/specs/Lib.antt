pub mod Attachment
pub mod Buffers
pub mod HandOver
pub mod SharedComments
