-- A shebang is read the same in front of a line feed and at the end.
use Rattle.std.proofs.Common.{◌≡◌, true, false, [], ◌∷◌, ◌++◌, drop, refl, ap, ◌∙◌, sym, eqb-true}
use Rattle.std.specs.Prelude.{codes}
use Rattle.ecma_place.specs.Text.{Text}
use Rattle.ecma_place.specs.Character.{is_line_terminator}
use Rattle.ecma_grammar.specs.Fronts.{in_line, line, next_passes}
use Rattle.ecma_grammar.specs.Locality.{ends_line}
use Rattle.ecma_grammar.specs.Shebangs.{found_shebang, shebang, ShebangIsLocal}
use Rattle.ecma_grammar.proofs.Fronts.{front_all, front_run}
use Rattle.ecma_grammar.proofs.GapForms.{cond_true}

feed_ends_line : in_line 10 ≡ false
unfolding is_line_terminator
feed_ends_line = refl

stops_line : (r : Text) → ends_line r ≡ true → next_passes in_line r ≡ false
stops_line [] h = refl
stops_line (c ∷ cs) h = ap in_line (eqb-true c 10 h) ∙ feed_ends_line

-- the shebang whose line is the front of a text, with another text behind it
again : (text r : Text) → ends_line r ≡ true → shebang ((codes "#!" ++ line text) ++ r) ≡ found_shebang (line text)
again text r ends = ap found_shebang (front_run in_line (line text) r (front_all in_line text) (stops_line r ends))

pub shebang_is_local : ShebangIsLocal
shebang_is_local b behind r opens clean spells ends =
    let text = drop 2 (b ++ behind) in
    let found : shebang (b ++ behind) ≡ found_shebang (line text) = cond_true _ _ _ opens in
    let is : codes "#!" ++ line text ≡ b = ap (λ s. s.spelling) (sym found) ∙ spells in
    ap (λ l. shebang (l ++ r)) (sym is) ∙ again text r ends ∙ sym found
