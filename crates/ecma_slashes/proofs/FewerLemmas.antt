-- A slash that is read again leaves less of the text than stood before it.
use Rattle.std.proofs.Common.{◌≡◌, ◌∙◌, ℕ, zero, suc, ◌+◌, ◌-◌, ◌<◌, ◌≤◌, Bool, true, false, cond, [], ◌∷◌, Option, Some, None, length, take, drop, drop-drop, length-drop, ⊎_elim, refl, sym, subst, ap, arith}
use Rattle.std.proofs.lemmas.Str.{length-le-encodes}
use Rattle.std.proofs.lemmas.Bool.Decides.{leb_tells}
use Rattle.std.proofs.lemmas.Option.{none-some}
use Rattle.ecma_place.specs.Cursor.{Cursor, HasPlace, count_within, index_of, passed, place, rest}
use Rattle.ecma_place.specs.Text.{Text, byte_len}
use Rattle.ecma_place.specs.declared.place.BytePos.{BytePos}
use Rattle.ecma_place.proofs.CursorLemmas.{byte_len-cons}
use Rattle.ecma_token.specs.View.{SpannedView}
use Rattle.ecma_stream.specs.Expressions.{body_cutter, body_pieces, closed_expression, flags, open_expression, opens_expression, regular_expression}
use Rattle.ecma_stream.specs.Fronts.{next_is}
use Rattle.ecma_stream.specs.Pieces.{remainder, spelled}
use Rattle.ecma_state.specs.Reading.{reading, reading_again}
use Rattle.ecma_state.specs.Run.{at_place, mode_of, reading_of, state_behind, state_rereading}
use Rattle.ecma_state.specs.Session.{LexerState, kept_in, kept_of}
use Rattle.ecma_state.specs.State.{last_slash, previous, seen_behind, slash_in}
use Rattle.ecma_state.specs.Ending.{most_tokens}
use Rattle.ecma_stream.proofs.EndLemmas.{reading-on, room-le}
use Rattle.ecma_stream.proofs.EndingLemmas.{plain-reading}
use Rattle.ecma_stream.proofs.SlashLemmas.{begins-reading, place-there, slash-is}

-- characters further is bytes further, while some are left
further : (text : Text) (i j : ℕ) → i < j → i < length text → byte_len (take i text) < byte_len (take j text)
further [] i j less some = absurd (omega (arith, some))
further (c ∷ cs) i zero less some = absurd (omega (arith, less))
further (c ∷ cs) zero (suc j) less some =
    let least = length-le-encodes (c ∷ take j cs) in
    let one : 0 < length (c ∷ take j cs) = omega arith in
    omega (arith, least, one)
further (c ∷ cs) (suc i) (suc j) less some =
    let more = further cs i j (omega (arith, less)) (omega (arith, some)) in
    omega (arith, more, byte_len-cons c (take i cs), byte_len-cons c (take j cs))

opens-some : (text : Text) → opens_expression text ≡ true → 0 < length text
opens-some [] h = cc
opens-some (x ∷ xs) h = omega arith

same-place : (a b : Cursor) (p : BytePos) → a.start ≡ b.start → a.text ≡ b.text → at_place p a ≡ at_place p b
same-place a b p start text =
    ap (λ s. record { start = s; text = a.text; at = count_within (p.0 - s) a.text }) start
    ∙ ap (λ t. record { start = b.start; text = t; at = count_within (p.0 - b.start) t }) text

-- from a place that is not before the cursor's as much is left as from the cursor on, or less
pub rest-from : (c : Cursor) (p : BytePos) → HasPlace c p.0 → opens_expression (rest (at_place p c)) ≡ true → place c ≤ p.0 → length (rest (at_place p c)) ≤ length (rest c)
rest-from c p has opens behind =
    ⊎_elim
    (λ h. omega (arith, h, length-drop c.at c.text, length-drop (index_of c p.0) c.text))
    (λ h. let less : index_of c p.0 < c.at = h.1 in
    let there = place-there c p has in
    let some = opens-some (rest (at_place p c)) opens in
    let more = further c.text (index_of c p.0) c.at less (omega (arith, some, length-drop (index_of c p.0) c.text)) in
    absurd (omega (arith, there, behind, more)))
    (leb_tells c.at (index_of c p.0))

-- an expression, or what is told in its place, holds its slash
spelled-some : (text : Text) → 0 < length (regular_expression text).spelling
spelled-some text = go (next_is 47 (remainder body_cutter tt (drop 1 text)))
  where
    go : (b : Bool)
        → 0 < length (cond b (closed_expression (spelled body_cutter (body_pieces (drop 1 text))) (flags (drop 1 (remainder body_cutter tt (drop 1 text))))) (open_expression (drop 1 text))).spelling
    go true = omega arith
    go false = omega arith

again-left : (flag : Bool) (here : Cursor) → 0 < length (rest here) → length (rest (reading_again flag here).input) < length (rest here)
again-left flag here some =
    let n : ℕ = length (regular_expression (rest here)).spelling in
    let left : length (rest (passed n here)) ≡ length (rest here) - n = rw (← drop-drop n here.at here.text) (length-drop n (rest here)) in
    omega (arith, left, spelled-some (rest here), some)

-- A slash was answered last: it stands where the read began or further, and the text has it still.
pub record SlashMet (l : LexerState) (p : BytePos) : Type 0 where
  pub has : HasPlace l.input p.0
  pub opens : opens_expression (rest (at_place p l.input)) ≡ true
  pub before : place l.input ≤ p.0
  pub there : at_place p (state_behind l (reading_of l)).input ≡ at_place p l.input

pub slash-met : (l : LexerState) (p : BytePos) → l.reread ≡ None → last_slash (state_behind l (reading_of l)).state.seen ≡ Some p → SlashMet l p
slash-met l p plain slash = go (reading_of l).found refl
  where
    now : LexerState
    now = state_behind l (reading_of l)

    go : (found : Option SpannedView) → (reading_of l).found ≡ found → SlashMet l p
    go None e = let none : last_slash now.state.seen ≡ None = ap (λ o. last_slash (seen_behind l.state.seen (reading_of l).end_flag (kept_in o))) e in absurd (none-some p (sym none ∙ slash))
    go (Some t) e =
        let told : slash_in (Some (kept_of t)) ≡ Some p = sym (ap (λ o. last_slash (seen_behind l.state.seen (reading_of l).end_flag (kept_in o))) e) ∙ slash in
        let (is, lo) = slash-is t p told in
        let found : (reading (mode_of l) l.input).found ≡ Some t = ap (λ r. r.found) (sym (plain-reading l plain)) ∙ e in
        let on = reading-on (mode_of l) l.input in
        let begins = begins-reading (mode_of l) l.input t found in
        record {
          has = subst (λ (q : BytePos). HasPlace l.input q.0) lo begins.has_place;
          opens = ap (λ q. opens_expression (rest (at_place q l.input))) (sym lo) ∙ begins.opens is;
          before = subst (λ (q : BytePos). place l.input ≤ q.0) lo (on.token t found).0;
          there = same-place now.input l.input p (ap (λ r. r.input.start) (plain-reading l plain) ∙ on.start) (ap (λ r. r.input.text) (plain-reading l plain) ∙ on.text);
        }

-- the lexer that reads it again
abbrev pub asking : LexerState → BytePos → LexerState
asking l p = state_rereading (Some p) (state_behind l (reading_of l))

-- a token that takes the place of a slash leaves fewer that may come than there were before the slash
pub fewer-again : (l : LexerState) (p : BytePos) → l.reread ≡ None → last_slash (state_behind l (reading_of l)).state.seen ≡ Some p
    → most_tokens (state_rereading None (state_behind (asking l p) (reading_of (asking l p)))) < most_tokens l
fewer-again l p plain slash =
    let met = slash-met l p plain slash in
    let asked : LexerState = asking l p in
    let left = rest-from l.input p met.has met.opens met.before in
    let less = again-left asked.state.seen.flag (at_place p asked.input) (subst (λ (c : Cursor). 0 < length (rest c)) (sym met.there) (opens-some (rest (at_place p l.input)) met.opens)) in
    let here : length (rest (at_place p asked.input)) ≡ length (rest (at_place p l.input)) = ap (λ c. length (rest c)) met.there in
    omega (arith, left, less, here, room-le (previous (state_behind asked (reading_of asked)).state.seen))

-- and the read of it ends behind it
pub beyond-slash : (l : LexerState) (p : BytePos) → l.reread ≡ None → last_slash (state_behind l (reading_of l)).state.seen ≡ Some p → p.0 < place (reading_of (asking l p)).input
beyond-slash l p plain slash =
    let met = slash-met l p plain slash in
    let here : Cursor = at_place p (asking l p).input in
    let n : ℕ = length (regular_expression (rest here)).spelling in
    let at : place here ≡ p.0 = ap place met.there ∙ place-there l.input p met.has in
    let some : 0 < length (rest here) = subst (λ (c : Cursor). 0 < length (rest c)) (sym met.there) (opens-some (rest (at_place p l.input)) met.opens) in
    let more = further here.text here.at (here.at + n) (let one = spelled-some (rest here) in omega (arith, one)) (let left = length-drop here.at here.text in omega (arith, some, left)) in
    omega (arith, at, more)
