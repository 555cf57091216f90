-- A marker of bars and what it holds tile the text with what follows.
use Rattle.std.proofs.Common.{◌≡◌, true, [], ◌∷◌, ◌++◌, drop, length, Option, Some, None, refl, ap, ◌∙◌, sym, append_assoc}
use Rattle.std.specs.Prelude.{codes}
use Rattle.std.proofs.lemmas.List.{drop_at}
use Rattle.ecma_place.specs.Text.{Text}
use Rattle.ecma_grammar.specs.Bars.{common_element, common_cutter, opens_bars, behind_signs, behind_bars_line, bars_spelling, behind_bars, BarsTile}
use Rattle.ecma_grammar.specs.Cutters.{IsCutter}
use Rattle.ecma_grammar.specs.Fronts.{line}
use Rattle.ecma_grammar.specs.Gaps.{Element}
use Rattle.ecma_grammar.specs.Pieces.{pieces, spelled, remainder}
use Rattle.ecma_grammar.proofs.Fronts.{begins_with-front}
use Rattle.ecma_grammar.proofs.GapForms.{RuledIf, line_front, common_ruled, never_empty}
use Rattle.ecma_grammar.proofs.PieceLemmas.{FrontIf, is_cutter, tiling, maximal}

as_common : (o : Option Element) (text : Text) → RuledIf true true o text → FrontIf common_cutter o text
as_common None text h = tt
as_common (Some e) text h = ((h.0, h.1), never_empty e)

pub common_is_cutter : IsCutter common_cutter
common_is_cutter = is_cutter common_cutter (λ _ text. at text)
  where
    at : (text : Text) → FrontIf common_cutter (common_element text) text
    at [] = tt
    at (c ∷ cs) = as_common (common_element (c ∷ cs)) (c ∷ cs) (common_ruled true true c cs None tt)

signs_front : (text : Text) → opens_bars text ≡ true → codes "|||||||" ++ behind_signs text ≡ text
signs_front text h = ap (λ l. codes "|||||||" ++ drop 7 l) (sym (begins_with-front (codes "||||||| ") text h)) ∙ begins_with-front (codes "||||||| ") text h

-- the bars and what follows them, by the elements behind the line
bars_parts : (text : Text) → opens_bars text ≡ true → bars_spelling text ++ remainder common_cutter tt (behind_bars_line text) ≡ text
bars_parts text h =
    let behind = behind_bars_line text in
    let more = spelled common_cutter (pieces common_cutter tt behind) in
    append_assoc (codes "|||||||" ++ line (behind_signs text)) more (remainder common_cutter tt behind)
    ∙ ap (λ l. (codes "|||||||" ++ line (behind_signs text)) ++ l) (tiling common_cutter common_is_cutter tt behind)
    ∙ append_assoc (codes "|||||||") (line (behind_signs text)) behind
    ∙ ap (λ l. codes "|||||||" ++ l) (line_front (behind_signs text))
    ∙ signs_front text h

pub behind_bars_is : (text : Text) → opens_bars text ≡ true → behind_bars text ≡ remainder common_cutter tt (behind_bars_line text)
behind_bars_is text h =
    ap (drop (length (bars_spelling text))) (sym (bars_parts text h))
    ∙ drop_at (bars_spelling text) (remainder common_cutter tt (behind_bars_line text)) (length (bars_spelling text)) refl

pub bars_tile : BarsTile
bars_tile text h = (
  ap (λ l. bars_spelling text ++ l) (behind_bars_is text h) ∙ bars_parts text h,
  ap common_element (behind_bars_is text h) ∙ maximal common_cutter common_is_cutter tt (behind_bars_line text),
)
