-- Where a read comes to, and what is read at the end.
use Rattle.std.proofs.Common.{◌≡◌, ℕ, ◌+◌, ◌-◌, ◌*◌, ◌<◌, ◌≤◌, Bool, true, false, cond, ◌||◌, ◌&&◌, List, [], ◌∷◌, length, take, drop-drop, length-drop, Option, Some, None, refl, sym, ap, ◌∙◌, arith}
use Rattle.std.proofs.lemmas.Option.{none-some}
use Rattle.ecma_place.specs.Text.{Text, byte_len}
use Rattle.ecma_place.specs.Cursor.{Cursor, rest, place, passed}
use Rattle.ecma_place.proofs.MoveLemmas.{place-passed, place-passed-le}
use Rattle.ecma_place.specs.declared.comment.Comment.{Comment}
use Rattle.ecma_token.specs.Kinds.{kind_of}
use Rattle.ecma_token.specs.View.{SpannedView, TokenView}
use Rattle.ecma_token.specs.declared.kind.TokenKind.{TokenKind}
use Rattle.ecma_token.specs.declared.kind.TokenKind.TheVariants.{Template}
use Rattle.ecma_scan.specs.Pieces.{spelled}
use Rattle.ecma_scan.specs.Comments.{collected, comments_at, comments_of}
use Rattle.ecma_scan.specs.Gaps.{elements_under, faults_of, gap, gap_cutter, gap_faults_at, gap_spelling, has_line_break}
use Rattle.ecma_scan.specs.Found.{Fault, Scanned, found_at, span_of, token_behind}
use Rattle.ecma_scan.specs.GapViews.{GapView}
use Rattle.ecma_scan.specs.declared.gap_mode.GapMode.{GapMode}
use Rattle.ecma_scan.proofs.PunctuatorLemmas.{passed-zero}
use Rattle.ecma_scan.specs.Shebangs.{opens_shebang}
use Rattle.ecma_state.specs.Ending.{empty_room}
use Rattle.ecma_state.specs.Mode.{gap_mode, is_tpl_element}
use Rattle.ecma_state.specs.Reading.{Reading, is_free, is_free_behind, is_free_code, reading, reading_behind, reading_code, reading_if, behind_gap, gap_in, no_gap, shebang_reading, shebang_token, stands_shebang, token_reading}
use Rattle.ecma_state.specs.TokenAt.{is_empty, lookahead, placed, token_at, token_found}
use Rattle.ecma_state.specs.declared.mode.Mode.{Mode}
use Rattle.ecma_state.specs.declared.lookahead.Lookahead.{Lookahead}
use Rattle.ecma_state.specs.declared.lookahead.Lookahead.TheVariants as opens
use Rattle.ecma_reads.proofs.FrontLemmas.{shebang-front, token_at-front}
use Rattle.ecma_reads.proofs.ProgressLemmas.{Nothing, Reads, Something, token-reads}

-- of what a read finds, if it finds something: where it begins and ends, and its kind

abbrev pub lo_in : Option SpannedView → ℕ
lo_in None = 0
lo_in (Some t) = t.span.lo.0

abbrev pub hi_in : Option SpannedView → ℕ
hi_in None = 0
hi_in (Some t) = t.span.hi.0

abbrev pub kind_in : Option SpannedView → Option TokenKind
kind_in None = None
kind_in (Some t) = Some (kind_of t.token)

-- what a read finds stands behind the place where it began, and ends where the read ends
pub record ReadsOn (input : Cursor) (r : Reading) : Type 0 where
  pub start : r.input.start ≡ input.start
  pub text : r.input.text ≡ input.text
  pub token : (t : SpannedView) → r.found ≡ Some t → (place input ≤ t.span.lo.0) × (t.span.lo.0 ≤ t.span.hi.0) × (t.span.hi.0 ≡ place r.input)
  pub further : place input ≤ place r.input
  pub ending : r.found ≡ None → rest r.input ≡ []

-- what is found at a place reaches over its spelling

placed-extent : (lookahead : Lookahead) (mode : Mode) (n : ℕ) (s : Scanned TokenView) → (placed lookahead mode n s).extent ≡ span_of n (n + byte_len s.spelling)
placed-extent opens.Template mode n s = refl
placed-extent opens.Number mode n s = refl
placed-extent opens.String mode n s = refl
placed-extent opens.Word mode n s = refl
placed-extent opens.Bars mode n s = refl
placed-extent opens.Other mode n s = refl

pub token-extent : (mode : Mode) (flag : Bool) (n : ℕ) (text : Text) → (token_found mode flag n text).extent ≡ span_of n (n + byte_len (token_at mode flag text).spelling)
token-extent mode flag n text = placed-extent (lookahead mode flag text) mode n (token_at mode flag text)

reads-behind : (mode : Mode) (before : GapView) (input here : Cursor) (n : ℕ) (text : Text) → here ≡ passed n input → rest here ≡ text → ReadsOn input (reading_behind mode before here text)
reads-behind mode before input here n [] gap e = record {
  start = ap (λ c. c.start) gap;
  text = ap (λ c. c.text) gap;
  token = λ t h. absurd (none-some t h);
  further = place-passed-le input here n gap;
  ending = λ _. e;
}
reads-behind mode before input here n (c ∷ cs) gap e =
    let s = token_at mode before.line_break (c ∷ cs) in
    let front : take (length s.spelling) (rest here) ≡ s.spelling = rw e (token_at-front mode before.line_break (c ∷ cs)) in
    let behind : place (passed (length s.spelling) here) ≡ place here + byte_len s.spelling =
    place-passed here _ (length s.spelling) refl ∙ ap (λ l. place here + byte_len l) front in
    let first = place-passed-le input here n gap in
    let extent = token-extent mode before.line_break (place here) (c ∷ cs) in
    record {
      start = ap (λ c. c.start) gap;
      text = ap (λ c. c.text) gap;
      token = λ t h. let lo : place here ≡ t.span.lo.0 = ap (λ e. e.lo.0) (sym extent) ∙ ap lo_in h in
          let hi : place here + byte_len s.spelling ≡ t.span.hi.0 = ap (λ e. e.hi.0) (sym extent) ∙ ap hi_in h in
          (omega (arith, first, lo), omega (arith, lo, hi), sym hi ∙ sym behind);
      further = omega (arith, first, behind);
      ending = λ h. absurd (none-some _ (sym h));
    }

-- a token without a gap before it
token-on : (input : Cursor) (s : Scanned TokenView) → take (length s.spelling) (rest input) ≡ s.spelling
    → ReadsOn input (token_reading no_gap (found_at token_behind (place input) s) [] (passed (length s.spelling) input))
token-on input s front =
    let behind : place (passed (length s.spelling) input) ≡ place input + byte_len s.spelling =
    place-passed input _ (length s.spelling) refl ∙ ap (λ l. place input + byte_len l) front in
    record {
      start = refl;
      text = refl;
      token = λ t h. let lo : place input ≡ t.span.lo.0 = ap lo_in h in
          let hi : place input + byte_len s.spelling ≡ t.span.hi.0 = ap hi_in h in
          (omega (arith, lo), omega (arith, lo, hi), sym hi ∙ sym behind);
      further = omega (arith, behind);
      ending = λ h. absurd (none-some _ (sym h));
    }

pub stands-opens : (shebang_allowed : Bool) (text : Text) → (shebang_allowed && opens_shebang text) ≡ true → opens_shebang text ≡ true
stands-opens true text h = h
stands-opens false text h = cc

code-on : (mode : Mode) (input : Cursor) → ReadsOn input (reading_code mode input)
unfolding reading_code
code-on mode input =
    reads-behind mode (gap_in mode (place input) (rest input)) input (behind_gap mode input) (length (gap_spelling (gap_mode mode) (rest input))) (rest (behind_gap mode input)) refl refl

pub reading-on : (mode : Mode) (input : Cursor) → ReadsOn input (reading mode input)
reading-on mode input = go (stands_shebang mode (rest input)) refl
  where
    go : (b : Bool) → stands_shebang mode (rest input) ≡ b → ReadsOn input (reading_if b mode input)
    go true e = token-on input (shebang_token (rest input)) (shebang-front (rest input) (stands-opens mode.shebang_allowed (rest input) e))
    go false e = code-on mode input

-- At the end

-- before nothing there is no gap
gap-end : (mode : GapMode) → gap mode [] ≡ []
gap-end mode = go mode.template mode.keeps_space mode.first
  where
    go : (template keeps_space flag : Bool) → elements_under template keeps_space (record mode { first = flag }) [] ≡ []
    go true keeps_space flag = refl
    go false true true = refl
    go false true false = refl
    go false false flag = refl

gap_spelling-end : (mode : GapMode) → gap_spelling mode [] ≡ []
gap_spelling-end mode = ap (spelled (gap_cutter mode)) (gap-end mode)

gap_faults-end : (n : ℕ) (mode : GapMode) → gap_faults_at n mode [] ≡ []
gap_faults-end n mode = ap (faults_of None n) (gap-end mode)

comments-end : (n : ℕ) (mode : GapMode) → comments_at n mode [] ≡ []
comments-end n mode = ap (λ es. collected mode.collect (comments_of mode.prev mode.first n es [])) (gap-end mode) ∙ go mode.collect
  where
    go : (collect : Bool) → collected {A = Comment × Bool} collect [] ≡ []
    go true = refl
    go false = refl

behind_gap-end : (mode : Mode) (input : Cursor) → rest input ≡ [] → behind_gap mode input ≡ input
behind_gap-end mode input e =
    ap (λ text. passed (length (gap_spelling (gap_mode mode) text)) input) e
    ∙ ap (λ gap. passed (length gap) input) (gap_spelling-end (gap_mode mode))
    ∙ passed-zero input

-- where nothing is left the end is answered, and nothing moves
code-end : (mode : Mode) (input : Cursor) → rest input ≡ [] → reading_code mode input ≡ record { found = None; end_flag = has_line_break (gap_mode mode) (rest input); faults = []; comments = []; input = input }
unfolding reading_code
code-end mode input e =
    let gap = gap_in mode (place input) (rest input) in
    let flag = has_line_break (gap_mode mode) (rest input) in
    let faults = ap (gap_faults_at (place input) (gap_mode mode)) e ∙ gap_faults-end (place input) (gap_mode mode) in
    let comments = ap (comments_at (place input) (gap_mode mode)) e ∙ comments-end (place input) (gap_mode mode) in
    ap (λ here. reading_behind mode gap here (rest here)) (behind_gap-end mode input e)
    ∙ ap (reading_behind mode gap input) e
    ∙ ap (λ fs. nothing_left flag fs (gap.comments) input) faults
    ∙ ap (λ cs. nothing_left flag [] cs input) comments
  where
    nothing_left : Bool → List Fault → List (Comment × Bool) → Cursor → Reading
    nothing_left flag faults comments input =
        record { found = None; end_flag = flag; faults = faults; comments = comments; input = input }

no-shebang : (shebang_allowed : Bool) → (shebang_allowed && opens_shebang []) ≡ false
no-shebang true = refl
no-shebang false = refl

pub reading-end : (mode : Mode) (input : Cursor) → rest input ≡ [] → reading mode input ≡ record { found = None; end_flag = has_line_break (gap_mode mode) (rest input); faults = []; comments = []; input = input }
reading-end mode input e =
    ap (λ b. reading_if b mode input) (ap (stands_shebang mode) e ∙ no-shebang mode.shebang_allowed) ∙ code-end mode input e

-- such a read does not allocate
pub end-free : (mode : Mode) (input : Cursor) → rest input ≡ [] → is_free mode input ≡ true
end-free mode input e =
    ap (λ b. b || is_free_code mode input) (ap (stands_shebang mode) e ∙ no-shebang mode.shebang_allowed)
    ∙ ap (λ faults. is_empty faults && (is_empty gap.comments && is_free_behind mode flag (rest (behind_gap mode input)))) faults
    ∙ ap (λ comments. is_empty comments && is_free_behind mode flag (rest (behind_gap mode input))) comments
    ∙ ap (λ here. is_free_behind mode flag (rest here)) (behind_gap-end mode input e)
    ∙ ap (is_free_behind mode flag) e
  where
    gap : GapView
    gap = gap_in mode (place input) (rest input)

    flag : Bool
    flag = has_line_break (gap_mode mode) (rest input)

    faults : gap.faults ≡ []
    faults = ap (gap_faults_at (place input) (gap_mode mode)) e ∙ gap_faults-end (place input) (gap_mode mode)

    comments : gap.comments ≡ []
    comments = ap (comments_at (place input) (gap_mode mode)) e ∙ comments-end (place input) (gap_mode mode)

-- Each token leaves fewer that may come

-- what is left of n characters and the room that one more token takes
abbrev pub most : Cursor → Option TokenKind → ℕ
most input previous = 2 * length (rest input) + empty_room previous

pub room-le : (previous : Option TokenKind) → empty_room previous ≤ 1
room-le previous = go (is_tpl_element previous)
  where
    go : (b : Bool) → cond b 0 1 ≤ 1
    go true = omega arith
    go false = omega arith

less-behind : (mode : Mode) (before : GapView) (input here : Cursor) (n : ℕ) (text : Text) (t : SpannedView) → here ≡ passed n input → rest here ≡ text
    → (reading_behind mode before here text).found ≡ Some t → most (reading_behind mode before here text).input (Some (kind_of t.token)) < most input mode.previous
less-behind mode before input here n [] t behind_it e found = absurd (none-some t found)
less-behind mode before input here n (c ∷ cs) t behind_it e found = go (token-reads mode before.line_break c cs)
  where
    s : Scanned TokenView
    s = token_at mode before.line_break (c ∷ cs)

    left : length (rest here) ≡ 1 + length cs
    left = ap length e ∙ (let more : length (c ∷ cs) ≡ 1 + length cs = omega arith in more)

    skipped : length (rest here) ≡ length (rest input) - n
    skipped = rw (behind_it, ← drop-drop n input.at input.text) (length-drop n (rest input))

    behind : length (rest (passed (length s.spelling) here)) ≡ length (rest here) - length s.spelling
    behind = rw (← drop-drop (length s.spelling) here.at here.text) (length-drop (length s.spelling) (rest here))

    go : Reads mode before.line_break (c ∷ cs) → most (passed (length s.spelling) here) (Some (kind_of t.token)) < most input mode.previous
    go (Something some) = omega (arith, some, left, skipped, behind, room-le (Some (kind_of t.token)))
    go (Nothing none is) =
        let kind : Some (kind_of t.token) ≡ Some Template = sym (ap kind_in found) ∙ ap (λ k. Some k) (is (place here)) in
        let now : empty_room (Some (kind_of t.token)) ≡ 0 = ap empty_room kind in
        let old : empty_room mode.previous ≡ 1 = ap (λ b. cond b 0 1) none in
        omega (arith, left, skipped, behind, now, old)

code-less : (mode : Mode) (input : Cursor) (t : SpannedView) → (reading_code mode input).found ≡ Some t → most (reading_code mode input).input (Some (kind_of t.token)) < most input mode.previous
unfolding reading_code
code-less mode input t found =
    less-behind mode (gap_in mode (place input) (rest input)) input (behind_gap mode input) (length (gap_spelling (gap_mode mode) (rest input))) (rest (behind_gap mode input)) t refl refl found

pub opens-some : (text : Text) → opens_shebang text ≡ true → 0 < length text
opens-some [] h = cc
opens-some (c ∷ cs) h = omega arith

-- a shebang holds its two signs at least
shebang-less : (previous : Option TokenKind) (input : Cursor) (t : SpannedView) → opens_shebang (rest input) ≡ true
    → most (shebang_reading input).input (Some (kind_of t.token)) < most input previous
shebang-less previous input t opens =
    let n : ℕ = length (shebang_token (rest input)).spelling in
    let left : length (rest (passed n input)) ≡ length (rest input) - n =
    rw (← drop-drop n input.at input.text) (length-drop n (rest input)) in
    let two : 2 ≤ n = omega arith in
    omega (arith, left, two, opens-some (rest input) opens, room-le (Some (kind_of t.token)))

pub reading-less : (mode : Mode) (input : Cursor) (t : SpannedView) → (reading mode input).found ≡ Some t → most (reading mode input).input (Some (kind_of t.token)) < most input mode.previous
reading-less mode input t found = go (stands_shebang mode (rest input)) refl found
  where
    go : (b : Bool) → stands_shebang mode (rest input) ≡ b → (reading_if b mode input).found ≡ Some t → most (reading_if b mode input).input (Some (kind_of t.token)) < most input mode.previous
    go true e found = shebang-less mode.previous input t (stands-opens mode.shebang_allowed (rest input) e)
    go false e found = code-less mode input t found
