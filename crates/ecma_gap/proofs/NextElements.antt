-- Which element a text begins with, by what its reader sees.
use Rattle.std.proofs.Common.{◌≡◌, ℕ, ◌+◌, cond, Bool, true, false, not, ◌&&◌, ◌||◌, ◌==◌, [], ◌∷◌, length, drop, slice_get, Option, Some, None, refl, sym, ap, ◌∙◌, arith, replicate, eqb-true, codes}
use Rattle.std.specs.Prelude.{is_some, nat_eq}
use Rattle.std.specs.List.{starts_with}
use Rattle.std.specs.Str.{chars}
use Rattle.std.proofs.lemmas.Bool.{and_parts}
use Rattle.ecma_place.specs.Text.{Text}
use Rattle.ecma_place.specs.Cursor.{Cursor, passed}
use Rattle.ecma_place.specs.Character.{is_white_space, is_line_terminator}
use Rattle.ecma_grammar.specs.declared.gap_mode.GapMode.{GapMode}
use Rattle.ecma_grammar.specs.Bars.{common_element}
use Rattle.ecma_grammar.specs.Fronts.{begins_with, line, next_is, next_passes}
use Rattle.ecma_grammar.specs.Gaps.{Element, element_text, LineComment, HtmlClosing, Marker, block_of, comment_body, elements, elements_if, elements_under, gap, flagged_element, is_marker, marker, marks, special_element}
use Rattle.ecma_gap.specs.GapRecords.{GapSoFarView, with_element, with_next, next_text, AddsNothing, NextAddsNothing}
use Rattle.ecma_grammar.proofs.GapForms.{cond_false, cond_true}
use Rattle.ecma_grammar.proofs.SignLemmas.{html-opening-seen, html-closing-seen}

-- White space and comments

pub common-line : (text : Text) → next_passes is_white_space text ≡ false → begins_with (codes "//") text ≡ true → common_element text ≡ Some (LineComment (line (drop 2 text)))
common-line [] w e = cc
common-line (c ∷ cs) w e = cond_false _ _ _ w ∙ cond_true _ _ _ e

pub common-block : (text : Text) → next_passes is_white_space text ≡ false → begins_with (codes "//") text ≡ false → begins_with (codes "/*") text ≡ true
    → common_element text ≡ Some (block_of (comment_body (drop 2 text)) (drop 2 text))
common-block [] w n e = cc
common-block (c ∷ cs) w n e = cond_false _ _ _ w ∙ cond_false _ _ _ n ∙ cond_true _ _ _ e

pub common-none : (text : Text) → next_passes is_white_space text ≡ false → begins_with (codes "//") text ≡ false → begins_with (codes "/*") text ≡ false → common_element text ≡ None
common-none [] w n e = refl
common-none (c ∷ cs) w n e = cond_false _ _ _ w ∙ cond_false _ _ _ n ∙ cond_false _ _ _ e

-- HTML-like comments and markers

-- no `<!--`, or among types
pub special-flagged : (type_mode flag : Bool) (text : Text) → (begins_with (codes "<!--") text && not type_mode) ≡ false → special_element type_mode flag text ≡ cond flag (flagged_element type_mode text) None
special-flagged type_mode flag text e = cond_false _ _ _ e

pub special-closing : (type_mode : Bool) (text : Text) → begins_with (codes "-->") text ≡ true → flagged_element type_mode text ≡ Some (HtmlClosing (line (drop 3 text)))
special-closing type_mode text e = cond_true _ _ _ e

pub special-marker : (type_mode : Bool) (text : Text) → begins_with (codes "-->") text ≡ false → flagged_element type_mode text ≡ marker type_mode text
special-marker type_mode text e = cond_false _ _ _ e

pub marker-stands : (type_mode : Bool) (c : ℕ) (text : Text) → slice_get text 0 ≡ Some c → is_marker type_mode c text ≡ true → marker type_mode text ≡ Some (Marker c (line (drop 7 text)))
marker-stands type_mode c [] e h = cc
marker-stands type_mode c (d ∷ ds) e h =
    let same : d ≡ c = cc in
    cond_true _ _ _ (ap (λ x. is_marker type_mode x (d ∷ ds)) same ∙ h) ∙ ap (λ x. Some (Marker x (line (drop 6 ds)))) same

pub marker-plain : (type_mode : Bool) (c : ℕ) (text : Text) → is_marker type_mode c text ≡ true → is_line_terminator c ≡ false
unfolding is_line_terminator
marker-plain type_mode c text h = go (c == 61) (c == 60) (c == 62) refl refl refl (and_parts (begins_with (replicate 7 c) text) (marks type_mode c (drop 7 text)) h).1
  where
    go : (x y z : Bool) → (c == 61) ≡ x → (c == 60) ≡ y → (c == 62) ≡ z → (x || (((y || z) && not type_mode) && next_is 32 (drop 7 text))) ≡ true → is_line_terminator c ≡ false
    go true y z a b d e = rw (eqb-true c 61 a) refl
    go false true z a b d e = rw (eqb-true c 60 b) refl
    go false false true a b d e = rw (eqb-true c 62 d) refl
    go false false false a b d e = cc

-- where the flag stands, behind no `<!--`
pub special-behind : (type_mode flag : Bool) (text : Text) (o : Option Element) → (begins_with (codes "<!--") text && not type_mode) ≡ false → flag ≡ true → flagged_element type_mode text ≡ o
    → special_element type_mode flag text ≡ o
special-behind type_mode flag text o e f h = special-flagged type_mode flag text e ∙ cond_true _ _ _ f ∙ h

pub closing-stands : (text : Text) (b x : Bool) → b ≡ starts_with nat_eq text (chars (codes "-->")) → b ≡ x → begins_with (codes "-->") text ≡ x
closing-stands text b x seen e = sym (html-closing-seen text) ∙ sym seen ∙ e

pub html-stands : (text : Text) (b type_mode : Bool) → b ≡ starts_with nat_eq text (chars (codes "<!--")) → type_mode ≡ false → b ≡ (begins_with (codes "<!--") text && not type_mode)
html-stands text b type_mode seen e = seen ∙ html-opening-seen text ∙ go (begins_with (codes "<!--") text) type_mode e
  where
    go : (x y : Bool) → y ≡ false → x ≡ (x && not y)
    go true true e = cc
    go true false e = refl
    go false y e = refl

-- where space is kept, a gap is what begins with an HTML-like comment or a marker
pub gap-kept : (mode : GapMode) (text : Text) (b : Bool) → mode.template ≡ false → mode.keeps_space ≡ true → b ≡ is_some (special_element mode.type_mode mode.first text)
    → gap mode text ≡ cond b (elements mode text) []
gap-kept mode text b t k e =
    ap (λ x. elements_under x mode.keeps_space mode text) t ∙ ap (λ x. elements_under false x mode text) k
    ∙ go (special_element mode.type_mode mode.first text) ∙ ap (λ x. cond x (elements mode text) []) (sym e)
  where
    go : (o : Option Element) → elements_if o mode text ≡ cond (is_some o) (elements mode text) []
    go None = refl
    go (Some e) = refl

-- What is read of the element, where it is known which

pub next-said : (mode : GapMode) (n : ℕ) (text : Text) (r now : GapSoFarView) (o : Option Element) (e : Element) → o ≡ Some e → now ≡ with_element mode n text e r → now ≡ with_next mode n text o r
next-said mode n text r now o e is h = rw is h

pub next-moved : (old new : Cursor) (o : Option Element) (e : Element) → o ≡ Some e → new ≡ passed (length (element_text e)) old → new ≡ passed (length (next_text o)) old
next-moved old new o e is h = rw is h

pub next-free : (mode : GapMode) (n : ℕ) (text : Text) (r : GapSoFarView) (o : Option Element) (e : Element) → o ≡ Some e → NextAddsNothing mode n text r o → AddsNothing mode n text r e
next-free mode n text r o e is h = rw is at h

pub none-said : (mode : GapMode) (n : ℕ) (text : Text) (r : GapSoFarView) (o : Option Element) → o ≡ None → r ≡ with_next mode n text o r
none-said mode n text r o is = rw is

pub none-moved : (old : Cursor) (o : Option Element) → o ≡ None → old ≡ passed (length (next_text o)) old
none-moved old o is =
    let same : old.at ≡ old.at + 0 = omega arith in
    rw is (ap (λ (n : ℕ). let moved : Cursor = record { start = old.start; text = old.text; at = n } in moved) same)
