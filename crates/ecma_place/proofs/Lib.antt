pub mod CharacterLemmas
pub mod ChunkLemmas
pub mod ClassLemmas
pub mod CursorLemmas
pub mod MoveLemmas
pub mod RunLemmas
pub mod TextLemmas
