pub mod ContextPairs
pub mod Contexts
pub mod SharedPairs
pub mod Transition
