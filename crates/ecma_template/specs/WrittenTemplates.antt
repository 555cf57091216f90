-- What a reader's pieces of template text say, and what its survey of them says.
use Rattle.std.specs.Prelude.{true, false, [], ◌∷◌, Option, Some, None}
use Rattle.ecma_place.specs.Text.{Text}
use Rattle.ecma_place.specs.declared.place.Span.{Span}
use Rattle.ecma_token.specs.View.{ErrorView}
use Rattle.ecma_escape.specs.declared.escape.Refusal.{Refusal}
use Rattle.ecma_template.specs.declared.template.pieces.Piece.{Piece}
use Rattle.ecma_template.specs.declared.template.pieces.Piece.TheVariants as written
use Rattle.ecma_escape.specs.EscapeMeanings.{answered, refusal_kind}
use Rattle.ecma_grammar.specs.Escapes.{InTemplate}
use Rattle.ecma_grammar.specs.Templates.{TemplatePiece, Plain, Break, Escaped, piece_text, template_piece}

-- a piece that is written so
abbrev pub piece_of : Text → Piece → TemplatePiece
piece_of spelling (written.Plain c) = Plain c
piece_of spelling (written.Break c) = Break (c ∷ [])
piece_of spelling (written.Return false) = Break (13 ∷ [])
piece_of spelling (written.Return true) = Break (13 ∷ (10 ∷ []))
piece_of spelling (written.Escaped answer) = Escaped (answered InTemplate spelling answer)

abbrev pub text_if : Option TemplatePiece → Text
text_if None = []
text_if (Some piece) = piece_text piece

-- what is written of the piece with which a text begins, if there is one
abbrev pub first_text : Text → Text
first_text text = text_if (template_piece text)

-- a refusal and where it lies, as an error is seen
abbrev pub refused_at : Refusal × Span → ErrorView
refused_at r = record { kind = refusal_kind r.0; span = r.1 }
