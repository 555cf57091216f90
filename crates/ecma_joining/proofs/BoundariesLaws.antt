-- No element stands behind a gap, and a line ends at a line feed.
use Rattle.std.proofs.Common.{◌≡◌, true, false, [], ◌∷◌, drop, length, refl, ap, ◌∙◌, eqb-true}
use Rattle.ecma_place.specs.Text.{Text}
use Rattle.ecma_place.specs.Character.{is_line_terminator}
use Rattle.ecma_scan.specs.Fronts.{in_line, line, next_passes}
use Rattle.ecma_scan.specs.Gaps.{behind_gap, element, elements, gap, gap_cutter}
use Rattle.ecma_joining.specs.Boundaries.{NothingBehindTheGap, ShebangStandsAlone}
use Rattle.ecma_scan.specs.Locality.{ends_line}
use Rattle.ecma_scan.specs.Pieces.{spelled, state_behind}
use Rattle.ecma_scan.proofs.Fronts.{front_all, front_run}
use Rattle.ecma_scan.proofs.GapLaws.{flag_is_behind, gap_tiles}

pub nothing_behind_the_gap : NothingBehindTheGap
nothing_behind_the_gap mode text template keeps =
    let is : gap mode text ≡ elements mode text = rw (template, keeps) refl in
    ap (λ x. element mode x (behind_gap mode text)) (flag_is_behind mode text)
    ∙ ap (λ es. element mode (state_behind (gap_cutter mode) mode.first es) (drop (length (spelled (gap_cutter mode) es)) text)) is
    ∙ (gap_tiles mode text).1

feed_ends : in_line 10 ≡ false
unfolding is_line_terminator
feed_ends = refl

line_ends : (r : Text) → ends_line r ≡ true → next_passes in_line r ≡ false
line_ends [] h = refl
line_ends (c ∷ cs) h = ap in_line (eqb-true c 10 h) ∙ feed_ends

pub shebang_stands_alone : ShebangStandsAlone
shebang_stands_alone text r h = (refl, front_run in_line (line (drop 2 text)) r (front_all in_line (drop 2 text)) (line_ends r h))
