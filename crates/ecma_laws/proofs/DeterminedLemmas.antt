-- What a read finds depends on the mode, on what is left, and on the place of that alone.
use Rattle.std.proofs.Common.{◌≡◌, ℕ, ◌+◌, Bool, true, false, [], ◌∷◌, ◌++◌, length, take, drop, Some, refl, sym, ap, subst, ◌∙◌}
use Rattle.std.proofs.lemmas.List.{drop-drop}
use Rattle.ecma_place.specs.Cursor.{Cursor, rest, place, passed}
use Rattle.ecma_place.specs.Text.{Text, byte_len}
use Rattle.ecma_place.proofs.MoveLemmas.{place-passed}
use Rattle.ecma_scan.specs.Gaps.{gap_spelling}
use Rattle.ecma_scan.specs.Found.{found_at, token_behind}
use Rattle.ecma_scan.specs.GapViews.{GapView}
use Rattle.ecma_state.specs.Mode.{gap_mode}
use Rattle.ecma_state.specs.Reading.{IsSameReading, ReadingIsDetermined, gap_in, no_gap, reading, reading_behind, reading_code, reading_if, reading_token, shebang_reading, shebang_token, spanned, stands_shebang, token_reading}
use Rattle.ecma_state.specs.TokenAt.{token_at, token_comments, token_found}
use Rattle.ecma_state.specs.declared.mode.Mode.{Mode}

-- cursors before which the same stands in the same place
record Alike (a b : Cursor) : Type 0 where
  left : rest a ≡ rest b
  stands : place a ≡ place b

rest-passed : (n : ℕ) (c : Cursor) → rest (passed n c) ≡ drop n (rest c)
rest-passed n c = sym (drop-drop n c.at c.text)

place-behind : (n : ℕ) (c : Cursor) → place (passed n c) ≡ place c + byte_len (take n (rest c))
place-behind n c = place-passed c (passed n c) n refl

alike_passed : (n : ℕ) (a b : Cursor) → Alike a b → Alike (passed n a) (passed n b)
alike_passed n a b h = record {
  left = rest-passed n a ∙ ap (drop n) h.left ∙ sym (rest-passed n b);
  stands =
      place-behind n a
      ∙ ap (λ p. p + byte_len (take n (rest a))) h.stands
      ∙ ap (λ l. place b + byte_len (take n l)) h.left
      ∙ sym (place-behind n b);
}

same_token : (mode : Mode) (gap : GapView) (a b : Cursor) (text : Text) → Alike a b → IsSameReading (reading_token mode gap a text) (reading_token mode gap b text)
same_token mode gap a b text h =
    let s = token_at mode gap.line_break text in
    let behind = alike_passed (length s.spelling) a b h in
    record {
      found = ap (λ p. Some (spanned gap.line_break (token_found mode gap.line_break p text))) h.stands;
      end_flag = refl;
      faults = ap (λ p. gap.faults ++ (token_found mode gap.line_break p text).faults) h.stands;
      comments = ap (λ p. gap.comments ++ token_comments mode gap.line_break p text) h.stands;
      left = behind.left;
      stands = behind.stands;
    }

same_behind : (mode : Mode) (gap : GapView) (a b : Cursor) (text : Text) → Alike a b → IsSameReading (reading_behind mode gap a text) (reading_behind mode gap b text)
same_behind mode gap a b [] h =
    record { found = refl; end_flag = refl; faults = refl; comments = refl; left = h.left; stands = h.stands }
same_behind mode gap a b (c ∷ cs) h = same_token mode gap a b (c ∷ cs) h

code_is_determined : (mode : Mode) (a b : Cursor) → Alike a b → IsSameReading (reading_code mode a) (reading_code mode b)
unfolding reading_code
code_is_determined mode a b h =
    let m = gap_mode mode in
    let n = length (gap_spelling m (rest a)) in
    let same : length (gap_spelling m (rest b)) ≡ n = ap (λ l. length (gap_spelling m l)) (sym h.left) in
    let gap : gap_in mode (place b) (rest b) ≡ gap_in mode (place a) (rest a) =
    ap (λ p. gap_in mode p (rest b)) (sym h.stands) ∙ ap (gap_in mode (place a)) (sym h.left) in
    let behind = alike_passed n a b h in
    rw (same, gap, ← behind.left) (same_behind mode (gap_in mode (place a) (rest a)) (passed n a) (passed n b) (rest (passed n a)) behind)

shebang_is_determined : (a b : Cursor) → Alike a b → IsSameReading (shebang_reading a) (shebang_reading b)
shebang_is_determined a b h =
    let s = shebang_token (rest a) in
    let same : shebang_token (rest b) ≡ s = ap shebang_token (sym h.left) in
    let behind = alike_passed (length s.spelling) a b h in
    let there : IsSameReading (shebang_reading a) (token_reading no_gap (found_at token_behind (place b) s) [] (passed (length s.spelling) b)) =
    record {
      found = ap (λ p. Some (spanned false (found_at token_behind p s))) h.stands;
      end_flag = refl;
      faults = refl;
      comments = refl;
      left = behind.left;
      stands = behind.stands;
    } in
    subst (λ t. IsSameReading (shebang_reading a) (token_reading no_gap (found_at token_behind (place b) t) [] (passed (length t.spelling) b))) (sym same) there

pub reading_is_determined : ReadingIsDetermined
reading_is_determined mode a b left stands =
    let h : Alike a b = record { left = left; stands = stands } in
    let same : stands_shebang mode (rest a) ≡ stands_shebang mode (rest b) = ap (stands_shebang mode) left in
    subst (λ x. IsSameReading (reading mode a) (reading_if x mode b)) same (go (stands_shebang mode (rest a)) h)
  where
    go : (x : Bool) → Alike a b → IsSameReading (reading_if x mode a) (reading_if x mode b)
    go true h = shebang_is_determined a b h
    go false h = code_is_determined mode a b h
