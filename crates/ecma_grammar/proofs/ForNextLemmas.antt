-- What stands behind a comment, as its reader looks ahead.
use Rattle.std.proofs.Common.{◌≡◌, ℕ, Bool, true, false, slice_get, Some, [], ◌∷◌, drop, length, refl, sym, ap, ◌∙◌, drop-drop, ◌==◌, eqb-true, arith}
use Rattle.std.specs.Prelude.{◌↔◌, IsTrue}
use Rattle.std.specs.List.{prefix_len}
use Rattle.std.proofs.lemmas.Bool.Decides.{nat_tests}
use Rattle.ecma_place.specs.Text.{Text}
use Rattle.ecma_place.specs.Character.{is_white_space}
use Rattle.ecma_place.specs.Cursor.{Cursor, rest, passed}
use Rattle.ecma_grammar.specs.Comments.{semicolon_follows}
use Rattle.ecma_grammar.specs.Fronts.{after, front, next_is}
use Rattle.ecma_grammar.proofs.Fronts.{after_drop, front-is, length-take_while}

-- what follows the white space at a cursor
pub after-run : (p : ℕ → Bool) (old now : Cursor) → now ≡ passed (prefix_len p (rest old)) old → rest now ≡ after p (rest old)
after-run p old now moved =
    let count : length (front p (rest old)) ≡ prefix_len p (rest old) =
    ap length (front-is p (rest old)) ∙ length-take_while p (rest old) in
    let there : rest (passed (prefix_len p (rest old)) old) ≡ drop (prefix_len p (rest old)) (rest old) = sym (drop-drop (prefix_len p (rest old)) old.at old.text) in
    ap rest moved ∙ there ∙ ap (λ n. drop n (rest old)) (sym count) ∙ sym (after_drop p (rest old))

pub after-white : (old now : Cursor) → now ≡ passed (prefix_len is_white_space (rest old)) old → rest now ≡ after is_white_space (rest old)
after-white = after-run is_white_space

first-is : (x : ℕ) (text : Text) (b : Bool) → (IsTrue b ↔ (slice_get text 0 ≡ Some x)) → b ≡ next_is x text
first-is x [] true e = let no = e.0 refl in cc
first-is x [] false e = refl
first-is x (c ∷ cs) true e = let same : c ≡ x = let h = e.0 refl in cc in rw same (grind (arith, nat_tests))
first-is x (c ∷ cs) false e = go (c == x) refl
  where
    go : (y : Bool) → (c == x) ≡ y → false ≡ y
    go true h = let no : false ≡ true = e.1 (ap Some (eqb-true c x h)) in cc
    go false h = refl

pub semicolon-seen : (old now : Cursor) (b : Bool) → now ≡ passed (prefix_len is_white_space (rest old)) old → (IsTrue b ↔ (slice_get (rest now) 0 ≡ Some 59)) → b ≡ semicolon_follows (rest old)
semicolon-seen old now b moved e = first-is 59 (rest now) b e ∙ ap (next_is 59) (after-white old now moved)
