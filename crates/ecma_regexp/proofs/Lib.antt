pub mod ExpressionForms
pub mod ExpressionFound
pub mod ExpressionLaws
pub mod ExpressionPieces
