-- What a read finds, from what its readers found.
use Rattle.std.proofs.Common.{◌≡◌, ℕ, ◌+◌, Bool, true, false, cond, List, [], ◌∷◌, ◌++◌, ◌||◌, ◌&&◌, Some, None, Ok, Err, drop, map, slice_get, refl, sym, ap, ◌∙◌}
use Rattle.std.specs.Prelude.{option_map}
use Rattle.ecma_place.specs.Text.{Text, byte_len}
use Rattle.ecma_place.specs.declared.place.Span.{Span}
use Rattle.ecma_place.specs.Cursor.{Cursor, rest, place}
use Rattle.ecma_token.specs.View.{TokenView, ErrorView, SpannedView}
use Rattle.ecma_scan.specs.Found.{Fault, Scanned, fault_behind, found_at, scanned, span_of, token_behind}
use Rattle.ecma_scan.specs.GapViews.{GapView}
use Rattle.ecma_state.specs.Reading.{reading, reading_behind, behind_gap, gap_in, reading_code, reading_if, reading_token, shebang_reading, shebang_token, spanned, stands_shebang, is_free, is_free_behind, is_free_code}
use Rattle.ecma_scan.specs.Gaps.{has_line_break}
use Rattle.ecma_scan.specs.Fronts.{line}
use Rattle.ecma_scan.specs.Shebangs.{found_shebang, opens_shebang, shebang}
use Rattle.ecma_state.specs.Mode.{gap_mode}
use Rattle.ecma_state.specs.TokenAt.{asks_for_none, comments_in, token_at, token_comments, token_found, token_of, lookahead, placed, is_empty, is_free_at}
use Rattle.ecma_state.specs.declared.mode.Mode.{Mode}
use Rattle.ecma_state.specs.declared.lookahead.Lookahead.{Lookahead}
use Rattle.ecma_state.specs.declared.lookahead.Lookahead.TheVariants as opens
use Rattle.ecma_reads.proofs.TokenLemmas.{and-parts, empty-none, free-parts, view}

reading_behind-some : (mode : Mode) (gap : GapView) (here : Cursor) (text : Text) (x : ℕ) → slice_get text 0 ≡ Some x
    → reading_behind mode gap here text ≡ reading_token mode gap here text
reading_behind-some mode gap here [] x e = cc
reading_behind-some mode gap here (c ∷ cs) x e = refl

-- a token is read where something stands behind the gap
pub reading-some : (mode : Mode) (input here : Cursor) (x : ℕ) → here ≡ behind_gap mode input → slice_get (rest here) 0 ≡ Some x
    → reading_code mode input ≡ reading_token mode (gap_in mode (place input) (rest input)) here (rest here)
unfolding reading_code
reading-some mode input here x gap e =
    ap (λ there. reading_behind mode (gap_in mode (place input) (rest input)) there (rest there)) (sym gap)
    ∙ reading_behind-some mode (gap_in mode (place input) (rest input)) here (rest here) x e

-- a read that does not allocate has no faults before the token, collects no comment, and its token does not allocate
pub record IsFree (mode : Mode) (input : Cursor) : Type 0 where
  pub gap_faults : (gap_in mode (place input) (rest input)).faults ≡ []
  pub comments : (gap_in mode (place input) (rest input)).comments ≡ []
  pub token : is_free_behind mode (has_line_break (gap_mode mode) (rest input)) (rest (behind_gap mode input)) ≡ true

pub free-reading : (mode : Mode) (input : Cursor) → is_free_code mode input ≡ true → IsFree mode input
free-reading mode input h =
    let gap = gap_in mode (place input) (rest input) in
    let one = and-parts (is_empty gap.faults) _ h in
    let two = and-parts (is_empty gap.comments) _ one.1 in
    record { gap_faults = empty-none gap.faults one.0; comments = empty-none gap.comments two.0; token = two.1 }

-- where a character stands behind the gap, a token is read there
pub free-token : (mode : Mode) (flag : Bool) (text : Text) (x : ℕ) → slice_get text 0 ≡ Some x → is_free_behind mode flag text ≡ true → is_free_at mode flag text ≡ true
free-token mode flag [] x e h = cc
free-token mode flag (c ∷ cs) x e h = h

-- such a read has no faults

pub placed-faults : (lookahead : Lookahead) (mode : Mode) (n : ℕ) (s : Scanned TokenView) → (placed lookahead mode n s).faults ≡ map (fault_behind n) s.faults
placed-faults opens.Template mode n s = refl
placed-faults opens.Number mode n s = refl
placed-faults opens.String mode n s = refl
placed-faults opens.Word mode n s = refl
placed-faults opens.Bars mode n s = refl
placed-faults opens.Other mode n s = refl

free-code : (mode : Mode) (input : Cursor) → is_free_code mode input ≡ true → (reading_code mode input).faults ≡ []
unfolding reading_code
free-code mode input h =
    let free = free-reading mode input h in
    go (rest (behind_gap mode input)) free.gap_faults free.token
  where
    go : (text : Text) → (gap_in mode (place input) (rest input)).faults ≡ [] → is_free_behind mode (has_line_break (gap_mode mode) (rest input)) text ≡ true
        → (reading_behind mode (gap_in mode (place input) (rest input)) (behind_gap mode input) text).faults ≡ []
    go [] none free = none
    go (c ∷ cs) none free =
        let flag = has_line_break (gap_mode mode) (rest input) in
        let n = place (behind_gap mode input) in
        let s = token_at mode flag (c ∷ cs) in
        ap (λ faults. faults ++ (token_found mode flag n (c ∷ cs)).faults) none
        ∙ placed-faults (lookahead mode flag (c ∷ cs)) mode n s
        ∙ ap (map (fault_behind n)) (free-parts (lookahead mode flag (c ∷ cs)) (c ∷ cs) s free).faults

pub free_faults : (mode : Mode) (input : Cursor) → is_free mode input ≡ true → (reading mode input).faults ≡ []
free_faults mode input h = go (stands_shebang mode (rest input)) h
  where
    go : (b : Bool) → (b || is_free_code mode input) ≡ true → (reading_if b mode input).faults ≡ []
    go true h = refl
    go false h = free-code mode input h

-- nor comments

comments-none : (lookahead : Lookahead) (mode : Mode) (n : ℕ) (text : Text) (s : Scanned TokenView) → asks_for_none lookahead text s ≡ true → comments_in lookahead mode n text ≡ []
comments-none opens.Template mode n text s h = refl
comments-none opens.Number mode n text s h = refl
comments-none opens.String mode n text s h = refl
comments-none opens.Word mode n text s h = refl
comments-none opens.Bars mode n text s h = cc
comments-none opens.Other mode n text s h = refl

pub token_comments-none : (mode : Mode) (flag : Bool) (n : ℕ) (text : Text) → is_free_at mode flag text ≡ true → token_comments mode flag n text ≡ []
token_comments-none mode flag n text h =
    let s = token_at mode flag text in
    comments-none (lookahead mode flag text) mode n text s (free-parts (lookahead mode flag text) text s h).none

uncommented : (mode : Mode) (input : Cursor) → is_free_code mode input ≡ true → (reading_code mode input).comments ≡ []
unfolding reading_code
uncommented mode input h =
    let free = free-reading mode input h in
    go (rest (behind_gap mode input)) free.comments free.token
  where
    go : (text : Text) → (gap_in mode (place input) (rest input)).comments ≡ [] → is_free_behind mode (has_line_break (gap_mode mode) (rest input)) text ≡ true
        → (reading_behind mode (gap_in mode (place input) (rest input)) (behind_gap mode input) text).comments ≡ []
    go [] none free = none
    go (c ∷ cs) none free =
        let flag = has_line_break (gap_mode mode) (rest input) in
        let n = place (behind_gap mode input) in
        ap (λ comments. comments ++ token_comments mode flag n (c ∷ cs)) none
        ∙ token_comments-none mode flag n (c ∷ cs) free

pub free_comments : (mode : Mode) (input : Cursor) → is_free mode input ≡ true → (reading mode input).comments ≡ []
free_comments mode input h = go (stands_shebang mode (rest input)) h
  where
    go : (b : Bool) → (b || is_free_code mode input) ≡ true → (reading_if b mode input).comments ≡ []
    go true h = refl
    go false h = uncommented mode input h

-- a shebang was found, or none

pub shebang-found : (n : ℕ) (text : Text) (token : TokenView) (faults : List Fault) (extent : Span) (line_break : Bool)
    → view (Ok (Some token)) faults extent line_break ≡ found_at (λ m. option_map (token_behind m)) n (shebang text)
    → (opens_shebang text ≡ true) × (token ≡ token_behind n (token_of (shebang_token text).value)) × (extent ≡ span_of n (n + byte_len (shebang_token text).spelling))
shebang-found n text token faults extent line_break h = go (opens_shebang text) h
  where
    go : (b : Bool) → view (Ok (Some token)) faults extent line_break ≡ found_at (λ m. option_map (token_behind m)) n (cond b (found_shebang (line (drop 2 text))) (scanned None []))
        → (b ≡ true) × (token ≡ token_behind n (token_of (shebang_token text).value)) × (extent ≡ span_of n (n + byte_len (shebang_token text).spelling))
    go true h =
        let value : Ok (Some token) ≡ Ok (Some (token_of (shebang_token text).value)) = ap (λ v. v.value) h in
        (refl, (let same : token ≡ token_of (shebang_token text).value = cc in same), ap (λ v. v.extent) h)
    go false h = let value : Ok (Some token) ≡ Ok None = ap (λ v. v.value) h in cc

pub shebang-none : (n : ℕ) (text : Text) (faults : List Fault) (extent : Span) (line_break : Bool)
    → view (Ok None) faults extent line_break ≡ found_at (λ m. option_map (token_behind m)) n (shebang text) → opens_shebang text ≡ false
shebang-none n text faults extent line_break h = go (opens_shebang text) h
  where
    go : (b : Bool) → view (Ok None) faults extent line_break ≡ found_at (λ m. option_map (token_behind m)) n (cond b (found_shebang (line (drop 2 text))) (scanned None [])) → b ≡ false
    go true h = let value : Ok None ≡ Ok (Some (token_of (shebang_token text).value)) = ap (λ v. v.value) h in cc
    go false h = refl

pub shebang-accepted : (n : ℕ) (text : Text) (error : ErrorView) (faults : List Fault) (extent : Span) (line_break : Bool)
    → view (Err error) faults extent line_break ≡ found_at (λ m. option_map (token_behind m)) n (shebang text) → ⊥
shebang-accepted n text error faults extent line_break h = go (opens_shebang text) h
  where
    go : (b : Bool) → view (Err error) faults extent line_break ≡ found_at (λ m. option_map (token_behind m)) n (cond b (found_shebang (line (drop 2 text))) (scanned None [])) → ⊥
    go true h = let value : Err error ≡ Ok (Some (token_of (shebang_token text).value)) = ap (λ v. v.value) h in cc
    go false h = let value : Err error ≡ Ok None = ap (λ v. v.value) h in cc

-- where a shebang was found, it is what a read finds
pub shebang-stands : (mode : Mode) (input : Cursor) (t : SpannedView) → mode.shebang_allowed ≡ true → Some t ≡ cond (opens_shebang (rest input)) (shebang_reading input).found None
    → reading mode input ≡ shebang_reading input
shebang-stands mode input t none found = go mode.shebang_allowed (opens_shebang (rest input)) none found
  where
    go : (shebang_allowed opens : Bool) → shebang_allowed ≡ true → Some t ≡ cond opens (shebang_reading input).found None → reading_if (shebang_allowed && opens) mode input ≡ shebang_reading input
    go false opens none found = cc
    go true false none found = cc
    go true true none found = refl

-- where no shebang was found, none stands, the cursor stays, and what does not allocate still does not

none-stands : (b : Bool) (t : SpannedView) → None ≡ cond b (Some t) None → b ≡ false
none-stands true t h = cc
none-stands false t h = refl

pub free-kept : (mode : Mode) (old now : Cursor) → None ≡ cond (opens_shebang (rest old)) (shebang_reading old).found None
    → now ≡ cond (opens_shebang (rest old)) (shebang_reading old).input old → is_free mode old ≡ true → is_free_code mode now ≡ true
free-kept mode old now none moved h =
    let stands = none-stands (opens_shebang (rest old)) (spanned false (found_at token_behind (place old) (shebang_token (rest old)))) none in
    let same : now ≡ old = moved ∙ ap (λ b. cond b (shebang_reading old).input old) stands in
    let kept = go mode.shebang_allowed (ap (λ b. (mode.shebang_allowed && b) || is_free_code mode old) (sym stands) ∙ h) in
    ap (is_free_code mode) same ∙ kept
  where
    go : (shebang_allowed : Bool) → ((shebang_allowed && false) || is_free_code mode old) ≡ true → is_free_code mode old ≡ true
    go true h = h
    go false h = h
