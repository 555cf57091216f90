-- Rows of canonical texts.
use Rattle.std.proofs.Common.{◌≡◌, Bool, true, false, [], ◌∷◌, refl}
use Rattle.std.specs.Prelude.{codes}
use Rattle.ecma_place.specs.Text.{Text}
use Rattle.ecma_token.specs.declared.kind.TokenKind.{TokenKind}
use Rattle.ecma_token.specs.declared.kind.TokenKind.TheVariants.{BackQuote, DollarLBrace, Dot, QuestionMark, RBrace, RParen, Semi, Template}
use Rattle.ecma_clean_reads.specs.Canonical.{Own, canonical_of}

own : TokenKind → Text → Bool → Own
own kind text flag = record { kind = kind; text = text; flag = flag }

empty : canonical_of [] ≡ []
empty = refl

spaced : canonical_of (own QuestionMark (codes "?") true ∷ (own Dot (codes ".") false ∷ [])) ≡ codes "? ."
unfolding own
spaced = refl

on_a_line : canonical_of (own Semi (codes ";") true ∷ (own Semi (codes ";") true ∷ [])) ≡ codes ";\n;"
unfolding own
on_a_line = refl

template : canonical_of (own BackQuote (codes "`") true ∷ (own Template (codes "a") false ∷ (own DollarLBrace (codes "${") false ∷ (own RParen (codes ")") false ∷ (own RBrace (codes "}") false ∷ (own Template (codes "c") true ∷ (own BackQuote (codes "`") false ∷ [])))))))
    ≡ codes "`a${ ) }c`"
unfolding own
template = refl
