-- Parts of a text that pieces are.
use Rattle.std.proofs.Common.{◌≡◌, ◌∙◌, ℕ, ◌-◌, List, [], ◌∷◌, ◌++◌, Option, refl, ap, arith}
use Rattle.std.specs.Prelude.{slice_range}
use Rattle.ecma_classes.specs.Classes as classes
use Rattle.ecma_classes.specs.declared.piece.Piece.{Piece}
use Rattle.ecma_show.specs.Painted as painted
use Rattle.ecma_styles.specs.Styles.{left_classes, styled}
use Rattle.ecma_styles.specs.declared.«class».Class.{Class}
use Rattle.ecma_looks.specs.Looks.{parts_of}

pub parts-bytes : (text : List ℕ) (cs : List (Option Class)) (pieces : List Piece) → painted.joined text (parts_of (styled cs pieces)) ≡ classes.joined 0 text pieces
parts-bytes text cs [] = refl
parts-bytes text cs (p ∷ ps) =
    let low : p.span.lo.0 ≡ p.span.lo.0 - 0 = omega arith in
    let high : p.span.hi.0 ≡ p.span.hi.0 - 0 = omega arith in
    ap (λ l. slice_range text l p.span.hi.0 ++ painted.joined text (parts_of (styled (left_classes p.class cs) ps))) low
    ∙ ap (λ h. slice_range text (p.span.lo.0 - 0) h ++ painted.joined text (parts_of (styled (left_classes p.class cs) ps))) high
    ∙ ap (λ more. slice_range text (p.span.lo.0 - 0) (p.span.hi.0 - 0) ++ more) (parts-bytes text (left_classes p.class cs) ps)
