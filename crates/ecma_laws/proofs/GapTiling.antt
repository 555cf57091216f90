-- The gap of each read and the tokens behind them tile the text.
use Rattle.std.proofs.Common.{◌≡◌, ◌∙◌, ℕ, ◌+◌, ◌-◌, ◌≤◌, Bool, true, false, List, [], ◌∷◌, ◌++◌, Option, Some, None, take, take_at, take-append-drop, drop, drop_at, length, length-drop, map, refl, sym, subst, ap, arith, encode_utf8_all}
use Rattle.std.specs.Prelude.{fold, is_some}
use Rattle.std.proofs.Math.Seq.{take-add, take-length}
use Rattle.std.proofs.lemmas.List.{drop-drop}
use Rattle.std.proofs.lemmas.Option.{none-some}
use Rattle.std.proofs.lemmas.Str.{encodes-append}
use Rattle.ecma_place.specs.Text.{Text, byte_len}
use Rattle.ecma_place.specs.Cursor.{Cursor, place, rest}
use Rattle.ecma_place.specs.declared.place.BytePos.{BytePos}
use Rattle.ecma_place.specs.declared.place.Span.{Span}
use Rattle.ecma_place.proofs.MoveLemmas.{byte_len-append, place-passed}
use Rattle.ecma_token.specs.View.{SpannedView}
use Rattle.ecma_scan.specs.Expressions.{regular_expression}
use Rattle.ecma_scan.specs.Found.{found_at, token_behind}
use Rattle.ecma_scan.specs.GapViews.{GapView}
use Rattle.ecma_scan.specs.Gaps.{elements_under, gap, gap_cutter, gap_spelling}
use Rattle.ecma_scan.specs.Gaps as gaps
use Rattle.ecma_scan.specs.Pieces.{spelled}
use Rattle.ecma_scan.proofs.GapLaws.{gap_is_front}
use Rattle.ecma_state.specs.Contexts.{Contexts}
use Rattle.ecma_state.specs.Counting.{counting}
use Rattle.ecma_state.specs.Mode.{gap_mode}
use Rattle.ecma_state.specs.Reading.{Reading, behind_gap, gap_in, reading, reading_again, reading_behind, reading_code, reading_if, spanned, stands_shebang}
use Rattle.ecma_state.specs.Run.{act_on, acted_on, at_place, given_in, mode_of, popped_from, reading_from, reread_from, session, start_of}
use Rattle.ecma_state.specs.Session.{Session, kept_back, kept_of, last_flag, seen_of, state_of}
use Rattle.ecma_state.specs.State.{is_slash, last_slash, slash_in}
use Rattle.ecma_state.specs.declared.mode.Mode.{Mode}
use Rattle.ecma_state.specs.declared.settings.Settings.{Settings}
use Rattle.ecma_state.specs.declared.step.Step.{Step}
use Rattle.ecma_state.specs.declared.step.Step.TheVariants.{Read, SetCtx, SetExprAllowed, SetContexts, PopContext, Reread, Withdraw, Save, Back, TakeErrors}
use Rattle.ecma_token.specs.Kinds.{kind_of}
use Rattle.ecma_reads.proofs.EndLemmas.{ReadsOn, lo_in, reading-on, token-extent}
use Rattle.ecma_reads.proofs.SlashLemmas.{again-kind, expression-no-slash, place-there, slash-is}
use Rattle.ecma_laws.specs.Tiling.{EndBehind, NoGapInTemplates, Piece, Stand, StandsGap, Tiles, TokenBehind, bytes_between, gap_if, gap_read, joined, kept_spans, last_is_gap, piece_in, pieces_behind, pieces_by, pieces_from, pieces_read, spans_in, with_again}
use Rattle.ecma_laws.proofs.TilingLemmas.{LastBegins, Standing, act_standing, again-ends, begins_standing, session_standing}

-- The bytes of a gap

gap-bytes : (c : Cursor) (gap more : Text) → gap ++ more ≡ rest c → bytes_between c (place c) (place c + byte_len gap) ≡ encode_utf8_all gap
gap-bytes c gap more e =
    let front = take c.at c.text in
    let n : ℕ = byte_len gap in
    let own = encode_utf8_all gap in
    let tail = encode_utf8_all more in
    let parts : c.text ≡ front ++ (gap ++ more) = sym (take-append-drop c.at c.text) ∙ ap (λ l. front ++ l) (sym e) in
    let whole : encode_utf8_all c.text ≡ encode_utf8_all front ++ (own ++ tail) = ap encode_utf8_all parts ∙ encodes-append front (gap ++ more) ∙ ap (λ l. encode_utf8_all front ++ l) (encodes-append gap more) in
    let low : place c - c.start ≡ byte_len front = omega arith in
    let count : ((place c + n) - c.start) - (place c - c.start) ≡ n = omega arith in
    ap (λ k. take k (drop (place c - c.start) (encode_utf8_all c.text))) count
    ∙ ap (λ k. take n (drop k (encode_utf8_all c.text))) low
    ∙ ap (λ bytes. take n (drop (byte_len front) bytes)) whole
    ∙ ap (take n) (drop_at (encode_utf8_all front) (own ++ tail) (byte_len front) refl)
    ∙ take_at own tail n refl

-- a gap that begins what is left of a cursor stands in every cursor of its text
stands-gap : (input c : Cursor) (gap more : Text) → c.start ≡ input.start → c.text ≡ input.text → gap ++ more ≡ rest c → (high : ℕ) → high ≡ place c + byte_len gap → StandsGap input gap (place c) high
stands-gap input c gap more start text e high reach = (
  reach,
  ap (bytes_between input (place c)) reach
      ∙ ap (λ s. take ((((place c + byte_len gap)) - s) - (place c - s)) (drop (place c - s) (encode_utf8_all input.text))) (sym start)
      ∙ ap (λ l. take ((((place c + byte_len gap)) - c.start) - (place c - c.start)) (drop (place c - c.start) (encode_utf8_all l))) (sym text)
      ∙ gap-bytes c gap more e,
)

-- Where a read finds what stands behind its gap

record GapBefore (input : Cursor) (gap : Text) (r : Reading) : Type 0 where
  more : Text
  front : gap ++ more ≡ rest input
  token : (t : SpannedView) → r.found ≡ Some t → t.span.lo.0 ≡ place input + byte_len gap
  ending : r.found ≡ None → place r.input ≡ place input + byte_len gap

begins-behind : (mode : Mode) (before : GapView) (here : Cursor) (text : Text) (t : SpannedView) → (reading_behind mode before here text).found ≡ Some t → t.span.lo.0 ≡ place here
begins-behind mode before here [] t e = absurd (none-some t e)
begins-behind mode before here (c ∷ cs) t e =
    ap lo_in (sym e) ∙ ap (λ extent. extent.lo.0) (token-extent mode before.line_break (place here) (c ∷ cs))

ends-behind : (mode : Mode) (before : GapView) (here : Cursor) (text : Text) → (reading_behind mode before here text).found ≡ None → place (reading_behind mode before here text).input ≡ place here
ends-behind mode before here [] e = refl
ends-behind mode before here (c ∷ cs) e = absurd (none-some _ (sym e))

code-before : (mode : Mode) (input : Cursor) → GapBefore input (gap_spelling (gap_mode mode) (rest input)) (reading_code mode input)
unfolding reading_code
code-before mode input =
    let text = gap_spelling (gap_mode mode) (rest input) in
    let before = gap_in mode (place input) (rest input) in
    let here = behind_gap mode input in
    let front : text ++ gaps.behind_gap (gap_mode mode) (rest input) ≡ rest input = gap_is_front (gap_mode mode) (rest input) in
    let there : place here ≡ place input + byte_len text = place-passed input here (length text) refl ∙ ap (λ l. place input + byte_len l) (ap (take (length text)) (sym front) ∙ take_at text (gaps.behind_gap (gap_mode mode) (rest input)) (length text) refl) in
    record {
      more = gaps.behind_gap (gap_mode mode) (rest input);
      front = front;
      token = λ t e. begins-behind mode before here (rest here) t e ∙ there;
      ending = λ e. ends-behind mode before here (rest here) e ∙ there;
    }

reading-before : (mode : Mode) (input : Cursor) → GapBefore input (gap_read mode input) (reading mode input)
reading-before mode input = go (stands_shebang mode (rest input))
  where
    go : (b : Bool) → GapBefore input (gap_if b mode (rest input)) (reading_if b mode input)
    go false = code-before mode input
    go true = record {
      more = rest input;
      front = refl;
      token = λ t e. (let lo : t.span.lo.0 ≡ place input = ap lo_in (sym e) in omega (arith, lo));
      ending = λ e. absurd (none-some _ (sym e));
    }

-- What holds of the pieces that were read

-- a gap stands up to a place, behind these pieces
abbrev StandsBefore : Cursor → Text → List Piece → ℕ → Type 0
StandsBefore input gap before high = (low : ℕ) × StandsGap input gap low high × Stand input (place input) before low

-- the newest piece is a token that begins at a place
record LastRead (pieces : List Piece) (p : BytePos) : Type 0 where
  gap : Text
  own : Span
  before : List Piece
  is : pieces ≡ TokenBehind gap own ∷ before
  begins : own.lo ≡ p

record Laid (input : Cursor) (s : Session) (pieces : List Piece) : Type 0 where
  tokens : spans_in pieces ≡ kept_spans s
  last : last_is_gap pieces ≡ (seen_of s.past).ended
  places : Stand input (place input) pieces (place s.input)
  answered : (p : BytePos) → last_slash (seen_of s.past) ≡ Some p → LastRead pieces p
  reread : (p : BytePos) → s.reread ≡ Some p → LastRead pieces p

still_laid : (input : Cursor) (s t : Session) (pieces : List Piece) → Laid input s pieces → t.input ≡ s.input → t.past ≡ s.past → t.reread ≡ s.reread → Laid input t pieces
still_laid input s t pieces k there past reread =
    record {
      tokens = rw past k.tokens;
      last = rw past k.last;
      places = rw there k.places;
      answered = rw past k.answered;
      reread = rw reread k.reread;
    }

-- a read behind what was read last
read_laid : (input : Cursor) (s : Session) (pieces : List Piece) → s.reread ≡ None → Standing input s → Laid input s pieces
    → Laid input (acted_on s (reading (mode_of (state_of s)) s.input)).after (pieces_from None s pieces)
read_laid input s pieces plain k laid = go r.found refl (is_some s.reread) (ap is_some plain)
  where
    r : Reading
    r = reading (mode_of (state_of s)) s.input

    on : ReadsOn s.input r
    on = reading-on (mode_of (state_of s)) s.input

    gap : Text
    gap = gap_read (mode_of (state_of s)) s.input

    before : GapBefore s.input gap r
    before = reading-before (mode_of (state_of s)) s.input

    gap_up_to : (high : ℕ) → high ≡ place s.input + byte_len gap → StandsGap input gap (place s.input) high
    gap_up_to = stands-gap input s.input gap before.more k.start k.text before.front

    never : (all : List Piece) (p : BytePos) → s.reread ≡ Some p → LastRead all p
    never all p h = let none : None ≡ Some p = sym plain ∙ h in cc

    go : (found : Option SpannedView) → r.found ≡ found → (again : Bool) → again ≡ false
        → Laid input (record (acted_on s r).after { past = given_in again r.end_flag found ∷ s.past }) (piece_in gap found ∷ pieces)
    go (Some t) e false same =
        let at = on.token t e in
        let own = at.1 in
        let hi = at.2 in
        record {
          tokens = ap (λ spans. t.span ∷ spans) laid.tokens;
          last = refl;
          places = (hi, omega (arith, own, hi), (place s.input, gap_up_to t.span.lo.0 (before.token t e), laid.places));
          answered = λ p h. record { gap = gap; own = t.span; before = pieces; is = refl; begins = (slash-is t p h).1 };
          reread = never (TokenBehind gap t.span ∷ pieces);
        }
    go (Some t) e true same = cc
    go None e again same = record {
      tokens = laid.tokens;
      last = refl;
      places = (place s.input, gap_up_to (place r.input) (before.ending e), laid.places);
      answered = λ p h. cc;
      reread = never (EndBehind gap ∷ pieces);
    }

-- a read from the slash that was read last
again_laid : (input : Cursor) (s : Session) (pieces : List Piece) (p : BytePos) → s.reread ≡ Some p → Standing input s → Laid input s pieces
    → Laid input (acted_on s (reading_again (last_flag s.past) (at_place p s.input))).after (pieces_from (Some p) s pieces)
again_laid input s pieces p again k laid = go (is_some s.reread) (ap is_some again)
  where
    here : Cursor
    here = at_place p s.input

    r : Reading
    r = reading_again (last_flag s.past) here

    t : SpannedView
    t = spanned (last_flag s.past) (found_at token_behind (place here) (regular_expression (rest here)))

    slash : LastRead pieces p
    slash = laid.reread p again

    stood : LastBegins s.input s.past p
    stood = k.reread p again

    there : place here ≡ p.0
    there = place-there s.input p stood.has_place

    all : List Piece
    all = TokenBehind slash.gap t.span ∷ slash.before

    same : pieces_from (Some p) s pieces ≡ all
    same = ap (with_again (Some t)) slash.is

    tokens : spans_in all ≡ t.span ∷ map (λ t. t.span) (drop 1 (kept_back s.past))
    tokens =
        let spans = sym (ap spans_in slash.is) ∙ laid.tokens in
        ap (λ l. t.span ∷ l) (ap (drop 1) spans ∙ dropped (kept_back s.past))
      where
        dropped : (ts : List SpannedView) → drop 1 (map (λ t. t.span) ts) ≡ map (λ t. t.span) (drop 1 ts)
        dropped [] = refl
        dropped (t ∷ ts) = refl

    before : StandsBefore input slash.gap slash.before slash.own.lo.0
    before = (subst (λ l. Stand input (place input) l (place s.input)) slash.is laid.places).2

    lo : slash.own.lo.0 ≡ place here
    lo = ap (λ (q : BytePos). q.0) slash.begins ∙ sym there

    places : Stand input (place input) all (place r.input)
    places =
        let ends : t.span.hi.0 ≡ place r.input = again-ends (last_flag s.past) here stood.opens in
        let own : t.span.lo.0 ≤ place r.input = omega (arith, ends) in
        (ends, own, subst (λ n. StandsBefore input slash.gap slash.before n) lo before)

    begins : LastRead all p
    begins = record { gap = slash.gap; own = t.span; before = slash.before; is = refl; begins = ap (λ n. record { 0 = n }) there }

    go : (again : Bool) → again ≡ true → Laid input (record (acted_on s r).after { past = given_in again r.end_flag r.found ∷ s.past }) (pieces_from (Some p) s pieces)
    go true e = subst (Laid input (record (acted_on s r).after { past = given_in true r.end_flag r.found ∷ s.past })) (sym same) record {
      tokens = tokens;
      last = refl;
      places = places;
      answered = λ q h. let never = expression-no-slash t.token (again-kind (place here) (rest here)) in no-slash t never q h;
      reread = λ q h. let same : p ≡ q = some-same (sym again ∙ h) in subst (λ q. LastRead all q) same begins;
    }
      where
        some-same : {a b : BytePos} → Some a ≡ Some b → a ≡ b
        some-same e = cc

        no-slash : (t : SpannedView) → is_slash (kind_of t.token) ≡ false → (q : BytePos) → slash_in (Some (kept_of t)) ≡ Some q → LastRead all q
        no-slash t never q h = let is = (slash-is t q h).0 in cc
    go false e = cc

read_either : (input : Cursor) (s : Session) (pieces : List Piece) → Standing input s → Laid input s pieces → Laid input (act_on s Read) (pieces_by s Read pieces)
read_either input s pieces k laid = go s.reread refl
  where
    go : (r : Option BytePos) → s.reread ≡ r → Laid input (acted_on s (reading_from r (state_of s))).after (pieces_from r s pieces)
    go None e = read_laid input s pieces e k laid
    go (Some p) e = again_laid input s pieces p e k laid

reread_laid : (input : Cursor) (s : Session) (pieces : List Piece) → Laid input s pieces → Laid input (act_on s Reread) pieces
reread_laid input s pieces laid = go (last_slash (seen_of s.past)) refl
  where
    go : (slash : Option BytePos) → last_slash (seen_of s.past) ≡ slash → Laid input (reread_from s slash).after pieces
    go None e = laid
    go (Some p) e = record { tokens = laid.tokens; last = laid.last; places = laid.places; answered = laid.answered; reread = λ q h. laid.answered q (e ∙ h) }

popped_laid : (input : Cursor) (s : Session) (pieces : List Piece) (contexts : Contexts) → Laid input s pieces → Laid input (popped_from s contexts).after pieces
popped_laid input s pieces [] laid = laid
popped_laid input s pieces (top ∷ below) laid = still_laid input s _ pieces laid refl refl refl

act_laid : (input : Cursor) (s : Session) (step : Step) (pieces : List Piece) → Standing input s → Laid input s pieces → Laid input (act_on s step) (pieces_by s step pieces)
act_laid input s Read pieces k laid = read_either input s pieces k laid
act_laid input s (SetCtx context) pieces k laid = still_laid input s _ pieces laid refl refl refl
act_laid input s (SetExprAllowed allowed) pieces k laid = still_laid input s _ pieces laid refl refl refl
act_laid input s (SetContexts contexts) pieces k laid = still_laid input s _ pieces laid refl refl refl
act_laid input s PopContext pieces k laid = popped_laid input s pieces s.contexts laid
act_laid input s Reread pieces k laid = reread_laid input s pieces laid
act_laid input s Withdraw pieces k laid =
    record { tokens = laid.tokens; last = laid.last; places = laid.places; answered = laid.answered; reread = λ p h. cc }
act_laid input s TakeErrors pieces k laid = still_laid input s _ pieces laid refl refl refl
act_laid input s Save pieces k laid = laid
act_laid input s (Back n) pieces k laid = laid

all_laid : (input : Cursor) (s : Session) (steps : List Step) (pieces : List Piece) → Standing input s → Laid input s pieces
    → Laid input (fold act_on s steps) (pieces_behind s steps pieces)
all_laid input s [] pieces k laid = laid
all_laid input s (step ∷ steps) pieces k laid =
    all_laid input (act_on s step) steps (pieces_by s step pieces) (act_standing input s step k) (act_laid input s step pieces k laid)

session_laid : (settings : Settings) (input : Cursor) (steps : List Step) → Laid input (session settings input steps) (pieces_read settings input steps)
session_laid settings input steps =
    all_laid input (start_of settings input) (counting steps) [] (begins_standing settings input)
    record { tokens = refl; last = refl; places = refl; answered = λ p h. cc; reread = λ p h. cc }

-- Joined, pieces that stand one behind the other are the text

-- two slices that meet are one
between-parts : (input : Cursor) (low middle high : ℕ) → input.start ≤ low → low ≤ middle → middle ≤ high
    → bytes_between input low middle ++ bytes_between input middle high ≡ bytes_between input low high
between-parts input low middle high s l m =
    let bytes = encode_utf8_all input.text in
    let a : ℕ = low - input.start in
    let b : ℕ = middle - input.start in
    let c : ℕ = high - input.start in
    let sum : (b - a) + (c - b) ≡ c - a = omega arith in
    let step : a + (b - a) ≡ b = omega arith in
    let cut = take-add (b - a) (c - b) (drop a bytes) in
    let moved : drop (b - a) (drop a bytes) ≡ drop b bytes = drop-drop (b - a) a bytes ∙ ap (λ n. drop n bytes) step in
    sym (ap (λ n. take n (drop a bytes)) (sym sum) ∙ cut ∙ ap (λ tail. take (b - a) (drop a bytes) ++ take (c - b) tail) moved)

nothing-between : (input : Cursor) (begin end : ℕ) → begin ≡ end → [] ≡ bytes_between input begin end
nothing-between input begin end same =
    let none : (end - input.start) - (begin - input.start) ≡ 0 = omega (arith, same) in
    sym (ap (λ n. take n (drop (begin - input.start) (encode_utf8_all input.text))) none)

further : (input : Cursor) (begin end : ℕ) (pieces : List Piece) → Stand input begin pieces end → begin ≤ end
further input begin end [] same = omega (arith, same)
further input begin end (TokenBehind gap own ∷ before) (hi, lo, (low, there, standing)) =
    let first = further input begin low before standing in
    let reach = there.0 in
    omega (arith, lo, first, reach)
further input begin end (EndBehind gap ∷ before) (low, there, standing) =
    let first = further input begin low before standing in
    let reach = there.0 in
    omega (arith, first, reach)

joined-standing : (input : Cursor) (begin end : ℕ) (pieces : List Piece) → input.start ≤ begin → Stand input begin pieces end → joined input pieces ≡ bytes_between input begin end
joined-standing input begin end [] s same = nothing-between input begin end same
joined-standing input begin end (TokenBehind gap own ∷ before) s (hi, lo, (low, there, standing)) =
    let first = further input begin low before standing in
    let reach = there.0 in
    let within : low ≤ own.lo.0 = omega (arith, reach) in
    let from_low : input.start ≤ low = omega (arith, s, first) in
    let front : begin ≤ own.lo.0 = omega (arith, first, within) in
    let all = encode_utf8_all gap ++ bytes_between input own.lo.0 own.hi.0 in
    ap (λ l. l ++ all) (joined-standing input begin low before s standing)
    ∙ ap (λ l. bytes_between input begin low ++ (l ++ bytes_between input own.lo.0 own.hi.0)) (sym there.1)
    ∙ ap (λ n. bytes_between input begin low ++ (bytes_between input low own.lo.0 ++ bytes_between input own.lo.0 n)) hi
    ∙ ap (λ l. bytes_between input begin low ++ l) (between-parts input low own.lo.0 end from_low within lo)
    ∙ between-parts input begin low end s first (omega (arith, within, lo))
joined-standing input begin end (EndBehind gap ∷ before) s (low, there, standing) =
    let first = further input begin low before standing in
    let reach = there.0 in
    ap (λ l. l ++ encode_utf8_all gap) (joined-standing input begin low before s standing)
    ∙ ap (λ l. bytes_between input begin low ++ l) (sym there.1)
    ∙ between-parts input begin low end s first (omega (arith, reach))

-- where nothing is left, all bytes stand before the cursor
byte_len-all : (c : Cursor) → rest c ≡ [] → byte_len (take c.at c.text) ≡ byte_len c.text
byte_len-all c e =
    let whole = sym (byte_len-append (take c.at c.text) (drop c.at c.text)) ∙ ap byte_len (take-append-drop c.at c.text) in
    let none : byte_len (drop c.at c.text) ≡ 0 = ap byte_len e in
    omega (arith, whole, none)

between-all : (input now : Cursor) → now.start ≡ input.start → now.text ≡ input.text → rest now ≡ []
    → bytes_between input (place input) (place now) ≡ drop (place input - input.start) (encode_utf8_all input.text)
between-all input now start text e =
    let bytes = encode_utf8_all input.text in
    let a : ℕ = place input - input.start in
    let all : place now ≡ input.start + byte_len input.text = ap (λ n. n + byte_len (take now.at now.text)) start ∙ ap (λ n. input.start + n) (byte_len-all now e ∙ ap byte_len text) in
    let count : (place now - input.start) - a ≡ length (drop a bytes) = omega (arith, all, length-drop a bytes) in
    ap (λ n. take n (drop a bytes)) count ∙ take-length (drop a bytes)

pub tiles : Tiles
tiles settings input steps =
    let s = session settings input steps in
    let k = session_standing settings input steps in
    let laid = session_laid settings input steps in
    let begins : input.start ≤ place input = omega arith in
    let so_far = joined-standing input (place input) (place s.input) (pieces_read settings input steps) begins laid.places in
    record {
      tokens = laid.tokens;
      last = laid.last;
      places = laid.places;
      so_far = so_far;
      whole = λ h. so_far ∙ between-all input s.input k.start k.text (k.ended h);
    }

pub no_gap_in_templates : NoGapInTemplates
no_gap_in_templates mode input template = go (stands_shebang mode (rest input))
  where
    go : (b : Bool) → gap_if b mode (rest input) ≡ []
    go true = refl
    go false = ap (λ b. spelled (gap_cutter (gap_mode mode)) (elements_under b (gap_mode mode).keeps_space (gap_mode mode) (rest input))) template
