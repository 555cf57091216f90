pub mod Rewinding
