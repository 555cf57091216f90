pub mod Clean
pub mod Grammar
pub mod Laws
pub mod Moments
pub mod Parts
pub mod Walk
