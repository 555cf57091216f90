pub mod CharacterLaws
pub mod CommentLaws
pub mod SeparationLaws
