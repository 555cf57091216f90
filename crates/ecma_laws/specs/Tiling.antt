-- Gaps and tokens, in the order in which they were read, tile the text.
use Rattle.std.specs.Prelude.{ℕ, ◌+◌, ◌-◌, ◌≤◌, ◌≡◌, Bool, true, false, List, [], ◌∷◌, ◌++◌, drop, map, Option, Some, None, slice_range, encode_utf8_all}
use Rattle.ecma_place.specs.Cursor.{Cursor, place, rest}
use Rattle.ecma_place.specs.Text.{Text, byte_len}
use Rattle.ecma_place.specs.declared.place.BytePos.{BytePos}
use Rattle.ecma_place.specs.declared.place.Span.{Span}
use Rattle.ecma_token.specs.View.{SpannedView}
use Rattle.ecma_scan.specs.Gaps.{gap_spelling}
use Rattle.ecma_state.specs.Counting.{counting}
use Rattle.ecma_state.specs.Mode.{gap_mode, is_template}
use Rattle.ecma_state.specs.Reading.{reading, reading_again, stands_shebang}
use Rattle.ecma_state.specs.Run.{act_on, at_place, mode_of, session, start_of}
use Rattle.ecma_state.specs.Session.{Session, has_ended, kept_back, last_flag, state_of}
use Rattle.ecma_state.specs.declared.mode.Mode.{Mode}
use Rattle.ecma_state.specs.declared.settings.Settings.{Settings}
use Rattle.ecma_state.specs.declared.step.Step.{Step}
use Rattle.ecma_state.specs.declared.step.Step.TheVariants.{Read, SetCtx, SetExprAllowed, SetContexts, PopContext, Reread, Withdraw, Save, Back, TakeErrors}

-- What each read reads

-- a gap by its text, and behind it a token over a span, or the end
pub data Piece : Type 0 where
  TokenBehind : Text → Span → Piece
  EndBehind : Text → Piece

-- the gap before what a read finds: none stands before a shebang, and in every mode as many elements as there are in it
abbrev pub gap_if : Bool → Mode → Text → Text
gap_if true mode text = []
gap_if false mode text = gap_spelling (gap_mode mode) text

abbrev pub gap_read : Mode → Cursor → Text
gap_read mode input = gap_if (stands_shebang mode (rest input)) mode (rest input)

abbrev pub piece_in : Text → Option SpannedView → Piece
piece_in gap (Some t) = TokenBehind gap t.span
piece_in gap None = EndBehind gap

-- a token that is read again from its slash: its own bytes stand in the place of the slash's, behind the same gap
abbrev pub with_again : Option SpannedView → List Piece → List Piece
with_again (Some t) (TokenBehind gap slash ∷ before) = TokenBehind gap t.span ∷ before
with_again (Some t) (EndBehind gap ∷ before) = EndBehind gap ∷ before
with_again (Some t) [] = []
with_again None pieces = pieces

-- the pieces of a run, the newest first, with those of one more read
abbrev pub pieces_from : Option BytePos → Session → List Piece → List Piece
pieces_from None s before =
    piece_in (gap_read (mode_of (state_of s)) s.input) (reading (mode_of (state_of s)) s.input).found ∷ before
pieces_from (Some slash) s before = with_again (reading_again (last_flag s.past) (at_place slash s.input)).found before

-- reads alone read
abbrev pub pieces_by : Session → Step → List Piece → List Piece
pieces_by s Read before = pieces_from s.reread s before
pieces_by s (SetCtx context) before = before
pieces_by s (SetExprAllowed allowed) before = before
pieces_by s (SetContexts contexts) before = before
pieces_by s PopContext before = before
pieces_by s Reread before = before
pieces_by s Withdraw before = before
pieces_by s TakeErrors before = before
pieces_by s Save before = before
pieces_by s (Back n) before = before

-- those of counting steps
abbrev pub pieces_behind : Session → List Step → List Piece → List Piece
pieces_behind s [] before = before
pieces_behind s (step ∷ steps) before = pieces_behind (act_on s step) steps (pieces_by s step before)

abbrev pub pieces_read : Settings → Cursor → List Step → List Piece
pieces_read settings input steps = pieces_behind (start_of settings input) (counting steps) []

-- What they are of the text

-- the bytes of a cursor's text from one place up to another
abbrev pub bytes_between : Cursor → ℕ → ℕ → List ℕ
bytes_between input low high = slice_range (encode_utf8_all input.text) (low - input.start) (high - input.start)

-- the bytes of a token's own
abbrev pub own_bytes : Cursor → Span → List ℕ
own_bytes input span = bytes_between input span.lo.0 span.hi.0

-- gap, own bytes, gap, own bytes and so on
abbrev pub joined : Cursor → List Piece → List ℕ
joined input [] = []
joined input (TokenBehind gap span ∷ before) = joined input before ++ (encode_utf8_all gap ++ own_bytes input span)
joined input (EndBehind gap ∷ before) = joined input before ++ encode_utf8_all gap

-- the spans of the tokens
abbrev pub spans_in : List Piece → List Span
spans_in [] = []
spans_in (TokenBehind gap span ∷ before) = span ∷ spans_in before
spans_in (EndBehind gap ∷ before) = spans_in before

-- the last piece is a gap, and the end stands behind it
abbrev pub last_is_gap : List Piece → Bool
last_is_gap [] = false
last_is_gap (TokenBehind gap span ∷ before) = false
last_is_gap (EndBehind gap ∷ before) = true

-- a gap stands in the text from one place up to another
abbrev pub StandsGap : Cursor → Text → ℕ → ℕ → Type 0
StandsGap input gap low high = (high ≡ low + byte_len gap) × (bytes_between input low high ≡ encode_utf8_all gap)

-- each piece begins where the one before it ends, from a place up to another
abbrev pub Stand : Cursor → ℕ → List Piece → ℕ → Type 0
Stand input begin [] end = begin ≡ end
Stand input begin (TokenBehind gap span ∷ before) end =
    (span.hi.0 ≡ end) × (span.lo.0 ≤ end) × ((low : ℕ) × StandsGap input gap low span.lo.0 × Stand input begin before low)
Stand input begin (EndBehind gap ∷ before) end = (low : ℕ) × StandsGap input gap low end × Stand input begin before low

-- Pieces tile a cursor's text up to the place `end`: their tokens are those of these spans, the newest first, and once
-- the end was answered the last of them is a gap; each begins where the one before it ends; and joined they are the text
-- up to `end`, and, once the end was answered, all of it.
pub record IsTiled (input : Cursor) (spans : List Span) (ended : Bool) (end : ℕ) (pieces : List Piece) : Type 0 where
  pub tokens : spans_in pieces ≡ spans
  pub last : last_is_gap pieces ≡ ended
  pub places : Stand input (place input) pieces end
  pub so_far : joined input pieces ≡ bytes_between input (place input) end
  pub whole : ended ≡ true → joined input pieces ≡ drop (place input - input.start) (encode_utf8_all input.text)

-- the spans of the tokens that are kept, the newest first
abbrev pub kept_spans : Session → List Span
kept_spans s = map (λ t. t.span) (kept_back s.past)

-- Laws

-- What a list of steps reads tiles the text up to where the run stands.
abbrev pub Tiles : Type 0
Tiles =
    (settings : Settings) (input : Cursor) (steps : List Step)
    → let s : Session = session settings input steps in IsTiled input (kept_spans s) (has_ended s.past) (place s.input) (pieces_read settings input steps)

-- No gap is read inside a template.
abbrev pub NoGapInTemplates : Type 0
NoGapInTemplates = (mode : Mode) (input : Cursor) → is_template mode.top ≡ true → gap_read mode input ≡ []
