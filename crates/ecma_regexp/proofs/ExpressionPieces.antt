-- Letters and pieces of a regular expression, as a cursor goes over them.
use Rattle.std.proofs.Common.{◌≡◌, ℕ, ◌+◌, ◌<◌, Bool, true, false, cond, ◌||◌, ◌==◌, [], ◌∷◌, ◌++◌, length, drop, Option, Some, None, refl, sym, ap, ◌∙◌, arith, length-append, length-drop, eqb-true, IsTrue, ◌↔◌}
use Rattle.std.specs.Prelude.{is_some, slice_get}
use Rattle.std.specs.List.{list_any}
use Rattle.std.proofs.lemmas.List.{drop_at}
use Rattle.ecma_place.specs.Text.{Text}
use Rattle.ecma_place.specs.Character.{is_line_terminator}
use Rattle.ecma_place.specs.Cursor.{Cursor, rest, passed}
use Rattle.ecma_place.proofs.RunLemmas.{first-cons, passed-later-by}
use Rattle.ecma_grammar.specs.Fronts.{front, next_is, line}
use Rattle.ecma_grammar.specs.Pieces.{Cutter, pieces, spelled, remainder}
use Rattle.ecma_grammar.specs.Cutters.{IsCutter}
use Rattle.ecma_grammar.specs.Expressions.{Class, class_letter, class_cutter, class_behind, body_piece, body_cutter}
use Rattle.ecma_regexp.specs.WrittenExpressions.{letter_if, body_if, behind_all, at_line_end}
use Rattle.ecma_escape.proofs.EscapeForms.{eaten-is, passed-both}
use Rattle.ecma_grammar.proofs.SignLemmas.{rest-behind}
use Rattle.ecma_grammar.proofs.PieceLemmas.{cut, tiling, maximal, pieces_none, pieces_more}
use Rattle.ecma_regexp.proofs.ExpressionForms.{class_forms, class_lines, expression_is_pieces}
use Rattle.ecma_regexp.proofs.ExpressionLaws.{class_is_cutter, body_is_cutter}

-- one piece further, the pieces end where they did

stays : (c : Cursor) (n : ℕ) → n ≡ 0 → passed n c ≡ c
stays c n e = ap (λ (k : ℕ). let moved : Cursor = record { start = c.start; text = c.text; at = k } in moved) (let same : c.at + n ≡ c.at = omega arith in same)

pub record IsStep {A : Type 0} (cutter : Cutter (Unit {0}) A) (old now : Cursor) : Type 0 where
  pub same_end : behind_all cutter now ≡ behind_all cutter old
  pub shorter : length (rest now) < length (rest old)

pub one_step : {A : Type 0} (cutter : Cutter (Unit {0}) A) → IsCutter cutter → (piece : A) (old now : Cursor) → cutter.read tt (rest old) ≡ Some piece
    → now ≡ passed (length (cutter.spelling piece)) old → IsStep cutter old now
one_step cutter is piece old now e moved =
    let n : ℕ = length (cutter.spelling piece) in
    let behind = rest-behind old now n moved in
    let f = is.front tt (rest old) piece e in
    let more : pieces cutter tt (rest old) ≡ piece ∷ pieces cutter tt (rest now) =
    pieces_more cutter is tt (rest old) piece e ∙ ap (λ t. piece ∷ pieces cutter tt t) (sym behind) in
    let size : length (spelled cutter (pieces cutter tt (rest old))) ≡ n + length (spelled cutter (pieces cutter tt (rest now))) =
    ap (λ ps. length (spelled cutter ps)) more ∙ length-append (cutter.spelling piece) (spelled cutter (pieces cutter tt (rest now))) in
    record {
      same_end = sym (passed-later-by old _ _ n size ∙ ap (passed (length (spelled cutter (pieces cutter tt (rest now))))) (sym moved));
      shorter = omega (arith, ap length f.1, length-append (cutter.spelling piece) f.0, ap length behind, length-drop n (rest old), is.some tt (rest old) piece e);
    }

pub no_step : {A : Type 0} (cutter : Cutter (Unit {0}) A) (c : Cursor) → cutter.read tt (rest c) ≡ None → behind_all cutter c ≡ c
no_step cutter c e = stays c _ (ap (λ ps. length (spelled cutter ps)) (pieces_none cutter tt (rest c) e))

from_some : {A : Type 0} (o : Option A) → true ≡ is_some o → (x : A) × (o ≡ Some x)
from_some (Some x) e = (x, refl)
from_some None e = cc

from_none : {A : Type 0} (o : Option A) → false ≡ is_some o → o ≡ None
from_none (Some x) e = cc
from_none None e = refl

-- letters

pub letter_step : (old now : Cursor) (was : Bool) → was ≡ is_some (class_letter (rest old)) → was ≡ true → now ≡ passed (length (letter_if (class_letter (rest old)))) old
    → IsStep class_cutter old now
letter_step old now was e is moved =
    let found = from_some (class_letter (rest old)) (sym is ∙ e) in
    one_step class_cutter class_is_cutter found.0 old now found.1 (moved ∙ ap (λ o. passed (length (letter_if o)) old) found.1)

pub letters_end : (old now : Cursor) (was : Bool) → was ≡ is_some (class_letter (rest old)) → was ≡ false → now ≡ passed (length (letter_if (class_letter (rest old)))) old
    → now ≡ behind_all class_cutter old
letters_end old now was e is moved =
    let none = from_none (class_letter (rest old)) (sym is ∙ e) in
    moved ∙ ap (λ o. passed (length (letter_if o)) old) none ∙ stays old 0 refl ∙ sym (no_step class_cutter old none)

-- lines

pub line_over : (a r : Text) → list_any is_line_terminator a ≡ false → line (a ++ r) ≡ a ++ line r
line_over [] r h = refl
line_over (c ∷ cs) r h = go (is_line_terminator c) refl h (λ e. line_over cs r e)
  where
    go : (x : Bool) → is_line_terminator c ≡ x → (x || list_any is_line_terminator cs) ≡ false → (list_any is_line_terminator cs ≡ false → line (cs ++ r) ≡ cs ++ line r)
        → line ((c ∷ cs) ++ r) ≡ (c ∷ cs) ++ line r
    go true e h more = cc
    go false e h more = rw (e, front) (ap (λ l. c ∷ l) (more h))

-- behind a front without line terminators the line ends where it did
pub same_line : (a r : Text) (old now : Cursor) → a ++ r ≡ rest old → list_any is_line_terminator a ≡ false → now ≡ passed (length a) old → at_line_end now ≡ at_line_end old
same_line a r old now e plain moved =
    let behind : rest now ≡ r = rest-behind old now _ moved ∙ ap (drop (length a)) (sym e) ∙ drop_at a r (length a) refl in
    let size : length (line (rest old)) ≡ length a + length (line (rest now)) =
    ap (λ t. length (line t)) (sym e) ∙ ap length (line_over a r plain) ∙ length-append a (line r) ∙ ap (λ t. length a + length (line t)) (sym behind) in
    sym (passed-later-by old _ _ _ size ∙ ap (passed (length (line (rest now)))) (sym moved))

-- classes

pub class_line : (old now : Cursor) → now ≡ behind_all class_cutter old → at_line_end now ≡ at_line_end old
class_line old now moved =
    let text = rest old in
    let ls = pieces class_cutter tt text in
    let c = cut class_cutter class_is_cutter tt text in
    same_line (spelled class_cutter ls) (remainder class_cutter tt text) old now (tiling class_cutter class_is_cutter tt text) (class_lines ls (class_forms ls c.0 c.2)) moved

slash_read : (cs : Text) → class_letter (47 ∷ cs) ≡ None → ⊥
unfolding is_line_terminator
slash_read cs e = cc

class_stops : (text : Text) → class_letter text ≡ None → next_is 47 text ≡ false
class_stops [] e = refl
class_stops (c ∷ cs) e = go (c == 47) refl
  where
    go : (x : Bool) → (c == 47) ≡ x → x ≡ false
    go true f = absurd (slash_read cs (rw (eqb-true c 47 f) at e))
    go false f = refl

pub behind_class : (old now : Cursor) → now ≡ behind_all class_cutter old → next_is 47 (rest now) ≡ false
behind_class old now moved =
    ap (next_is 47) (rest-behind old now _ moved) ∙ class_stops (remainder class_cutter tt (rest old)) (maximal class_cutter class_is_cutter tt (rest old))

some_if : {A : Type 0} (x : Bool) (a : A) → is_some (cond x (Some a) None) ≡ x
some_if true a = refl
some_if false a = refl

inside : (old one two : Cursor) → one ≡ passed 1 old → two ≡ behind_all class_cutter one → rest two ≡ remainder class_cutter tt (drop 1 (rest old))
inside old one two first second = rest-behind one two _ second ∙ ap (remainder class_cutter tt) (rest-behind old one 1 first)

-- a class is one where a bracket closes it
pub class_value : (old one two : Cursor) (ate : Bool) → one ≡ passed 1 old → two ≡ behind_all class_cutter one → (IsTrue ate ↔ (slice_get (rest two) 0 ≡ Some 93))
    → ate ≡ is_some (class_behind (drop 1 (rest old)))
class_value old one two ate first second is =
    let cs = drop 1 (rest old) in
    eaten-is ate 93 (rest two) is ∙ ap (next_is 93) (inside old one two first second)
    ∙ sym (some_if (next_is 93 (remainder class_cutter tt cs)) (Class (pieces class_cutter tt cs)))

pub class_moved : (old one two now : Cursor) (ate : Bool) → one ≡ passed 1 old → two ≡ behind_all class_cutter one → (IsTrue ate ↔ (slice_get (rest two) 0 ≡ Some 93))
    → now ≡ cond ate (passed 1 two) two → ate ≡ true → now ≡ passed (length (body_if (class_behind (drop 1 (rest old))))) old
class_moved old one two now ate first second is moved e =
    let cs = drop 1 (rest old) in
    let ls = spelled class_cutter (pieces class_cutter tt cs) in
    let here = ap (next_is 93) (sym (inside old one two first second)) ∙ sym (eaten-is ate 93 (rest two) is) ∙ e in
    let text : body_if (class_behind cs) ≡ 91 ∷ (ls ++ (93 ∷ [])) = rw here refl in
    let on : now ≡ passed 1 two = moved ∙ ap (λ b. cond b (passed 1 two) two) e in
    let letters : two ≡ passed (length ls) one = second ∙ ap (λ t. passed (length (spelled class_cutter (pieces class_cutter tt t))) one) (rest-behind old one 1 first) in
    passed-both old one now 1 (length ls + 1) _ first (passed-both one two now (length ls) 1 (length ls + 1) letters on refl)
    (omega (arith, ap length text, length-append ls (93 ∷ [])))

pub class_open : (one two now : Cursor) (ate : Bool) → two ≡ behind_all class_cutter one → now ≡ cond ate (passed 1 two) two → ate ≡ false → next_is 47 (rest now) ≡ false
class_open one two now ate second moved e =
    let on : now ≡ two = moved ∙ ap (λ b. cond b (passed 1 two) two) e in
    ap (λ c. next_is 47 (rest c)) on ∙ behind_class one two second

no_line_bracket : is_line_terminator 91 ≡ false
unfolding is_line_terminator
no_line_bracket = refl

pub class_line_end-same : (old one two now : Cursor) (ate : Bool) → slice_get (rest old) 0 ≡ Some 91 → one ≡ passed 1 old → two ≡ behind_all class_cutter one
    → now ≡ cond ate (passed 1 two) two → ate ≡ false → at_line_end now ≡ at_line_end old
class_line_end-same old one two now ate bracket first second moved e =
    let on : now ≡ two = moved ∙ ap (λ b. cond b (passed 1 two) two) e in
    let plain : list_any is_line_terminator (91 ∷ []) ≡ false = rw no_line_bracket refl in
    ap at_line_end on ∙ class_line one two second ∙ same_line (91 ∷ []) (drop 1 (rest old)) old one (sym (first-cons (rest old) 91 bracket)) plain first

-- pieces of the body

pub body_step : (old now : Cursor) (was : Bool) → was ≡ is_some (body_piece (rest old)) → was ≡ true → (was ≡ true → now ≡ passed (length (body_if (body_piece (rest old)))) old)
    → IsStep body_cutter old now
body_step old now was e is moved =
    let found = from_some (body_piece (rest old)) (sym is ∙ e) in
    one_step body_cutter body_is_cutter found.0 old now found.1 (moved is ∙ ap (λ o. passed (length (body_if o)) old) found.1)

pub body_end : (old : Cursor) (was : Bool) → was ≡ is_some (body_piece (rest old)) → was ≡ false → behind_all body_cutter old ≡ old
body_end old was e is = no_step body_cutter old (from_none (body_piece (rest old)) (sym is ∙ e))

pub body_rest : (old now : Cursor) → now ≡ behind_all body_cutter old → rest now ≡ remainder body_cutter tt (rest old)
body_rest old now moved = rest-behind old now _ moved

-- the line does not end in the body
pub body_line : (old now : Cursor) → now ≡ behind_all body_cutter old → at_line_end now ≡ at_line_end old
body_line old now moved =
    let text = rest old in
    same_line (spelled body_cutter (pieces body_cutter tt text)) (remainder body_cutter tt text) old now (tiling body_cutter body_is_cutter tt text) (expression_is_pieces text).1 moved
