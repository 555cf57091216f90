-- The comments that a read finds lie in order in what it reads, before its token or inside it.
use Rattle.std.proofs.Common.{◌≡◌, ◌∙◌, ℕ, ◌+◌, ◌≤◌, Bool, true, false, List, [], ◌∷◌, ◌++◌, drop, take, take_at, take-append-drop, length, Some, None, inl, inr, ⊎_elim, refl, sym, subst, ap, arith}
use Rattle.std.specs.Prelude.{◌⊎◌}
use Rattle.std.proofs.lemmas.List.{map-append}
use Rattle.std.proofs.lemmas.Option.{none-some}
use Rattle.ecma_place.specs.Cursor.{Cursor, HasPlace, passed, place, rest}
use Rattle.ecma_place.specs.Text.{Text, byte_len}
use Rattle.ecma_place.specs.declared.comment.Comment.{Comment}
use Rattle.ecma_place.specs.declared.place.Span.{Span}
use Rattle.ecma_place.proofs.MoveLemmas.{place-passed, place-passed-le}
use Rattle.ecma_token.specs.Kinds.{kind_of}
use Rattle.ecma_token.specs.View.{SpannedView, TokenView}
use Rattle.ecma_reads.specs.declared.gap_mode.GapMode.{GapMode}
use Rattle.ecma_reads.specs.Bars.{bars_elements, bars_spelling}
use Rattle.ecma_reads.specs.Comments.{LieBetween, collected, comments_of}
use Rattle.ecma_reads.specs.Found.{Scanned}
use Rattle.ecma_reads.specs.GapViews.{GapView}
use Rattle.ecma_reads.specs.Gaps.{gap, gap_spelling}
use Rattle.ecma_reads.specs.Gaps as gaps
use Rattle.ecma_laws.proofs.CommentLaws.{comments_lie, comments_lie_in_order}
use Rattle.ecma_reads.proofs.GapLaws.{gap_is_front}
use Rattle.ecma_state.specs.Mode.{gap_mode}
use Rattle.ecma_state.specs.Reading.{Reading, behind_gap, gap_in, reading, reading_behind, reading_code, reading_if, shebang_reading, shebang_token, spanned, stands_shebang}
use Rattle.ecma_state.specs.State.{is_slash}
use Rattle.ecma_state.specs.TokenAt.{comments_in, lookahead, placed, read_opened, token_at, token_comments, token_found, token_of}
use Rattle.ecma_state.specs.declared.mode.Mode.{Mode}
use Rattle.ecma_state.specs.declared.lookahead.Lookahead.{Lookahead}
use Rattle.ecma_state.specs.declared.lookahead.Lookahead.TheVariants as opens
use Rattle.ecma_reads.proofs.FrontLemmas.{token_at-front}
use Rattle.ecma_reads.proofs.EndLemmas.{hi_in, lo_in, token-extent}
use Rattle.ecma_classes.proofs.MemberLemmas.{IsIn, in_either}
use Rattle.ecma_pieces.proofs.AttachedLemmas.{more_between, one_between}
use Rattle.ecma_pieces.proofs.ElementPlaces.{SpanStands, bars_signed, elements_stand, gap_signed, own_span, own_spans, place_in, span_in_front, written, written_common, written_gap}
use Rattle.ecma_laws.proofs.KeptSpans.{moved_place}

-- a span begins and ends at places of the text of a cursor
abbrev pub HasPlaces : Cursor → Span → Type 0
HasPlaces c z = HasPlace c z.lo.0 × HasPlace c z.hi.0

-- a span ends before another, or lies in it
abbrev pub IsBeside : Span → Span → Type 0
IsBeside z own = (z.hi.0 ≤ own.lo.0) ⊎ ((own.lo.0 ≤ z.lo.0) × (z.hi.0 ≤ own.hi.0))

-- comments lie in order from a cursor up to a place
record LieUpTo (input : Cursor) (high : ℕ) (found : List (Comment × Bool)) : Type 0 where
  order : LieBetween (place input) high found
  places : (z : Span) → IsIn z (own_spans found) → HasPlaces input z

-- those of a read lie in what it reads, and none lies in a slash
pub record CommentsLie (input : Cursor) (r : Reading) : Type 0 where
  pub order : LieBetween (place input) (place r.input) r.comments
  pub places : (z : Span) → IsIn z (own_spans r.comments) → HasPlaces input z
  pub beside : (t : SpannedView) → r.found ≡ Some t → (z : Span) → IsIn z (own_spans r.comments) → IsBeside z t.span
  pub slash : (t : SpannedView) → r.found ≡ Some t → is_slash (kind_of t.token) ≡ true → (z : Span) → IsIn z (own_spans r.comments) → z.hi.0 ≤ t.span.lo.0

-- places of what is left of a cursor
places_in : (input here : Cursor) (n : ℕ) (front more : Text) (z : Span) → here ≡ passed n input → front ++ more ≡ rest here → SpanStands (place here) front z → HasPlaces input z
places_in input here n front more z moved whole stands =
    let there : SpanStands (place here) (rest here) z = subst (λ l. SpanStands (place here) l z) whole (span_in_front (place here) front more z stands) in
    let start : here.start ≡ input.start = ap (λ (c : Cursor). c.start) moved in
    let text : here.text ≡ input.text = ap (λ (c : Cursor). c.text) moved in
    (moved_place input here z.lo.0 start text (place_in here z.lo.0 there.from), moved_place input here z.hi.0 start text (place_in here z.hi.0 there.to))

-- The comments of a token: those that a marker of bars holds

bars_lie : (collect : Bool) (m : GapMode) (n : ℕ) (text : Text) → LieBetween n (n + byte_len (bars_spelling text)) (collected collect (comments_of None true n (bars_elements text) text))
bars_lie true m n text =
    let es = bars_elements text in
    subst (λ l. LieBetween n (n + byte_len l) (comments_of None true n es text)) (written_gap m es ∙ sym (written_common es)) (comments_lie m None true n es text)
bars_lie false m n text = omega arith

token_lies : (o : Lookahead) (mode : Mode) (n : ℕ) (text : Text) → LieBetween n (n + byte_len (read_opened o mode text).spelling) (comments_in o mode n text)
token_lies opens.Template mode n text = omega arith
token_lies opens.Number mode n text = omega arith
token_lies opens.String mode n text = omega arith
token_lies opens.Word mode n text = omega arith
token_lies opens.Bars mode n text = bars_lie mode.settings.comments (gap_mode mode) n text
token_lies opens.Other mode n text = omega arith

bars_stand : (collect : Bool) (n : ℕ) (text : Text) (z : Span) → IsIn z (own_spans (collected collect (comments_of None true n (bars_elements text) text))) → SpanStands n (bars_spelling text) z
bars_stand true n text z i =
    let es = bars_elements text in
    subst (λ l. SpanStands n l z) (sym (written_common es)) (elements_stand None true n es text (bars_signed text) z i)
bars_stand false n text z i = absurd i

token_stands : (o : Lookahead) (mode : Mode) (n : ℕ) (text : Text) (z : Span) → IsIn z (own_spans (comments_in o mode n text)) → SpanStands n (read_opened o mode text).spelling z
token_stands opens.Template mode n text z i = absurd i
token_stands opens.Number mode n text z i = absurd i
token_stands opens.String mode n text z i = absurd i
token_stands opens.Word mode n text z i = absurd i
token_stands opens.Bars mode n text z i = bars_stand mode.settings.comments n text z i
token_stands opens.Other mode n text z i = absurd i

-- such a marker is no slash
no_slash : (o : Lookahead) (mode : Mode) (n : ℕ) (text : Text) → is_slash (kind_of (token_of (placed o mode n (read_opened o mode text)).value)) ≡ true
    → (z : Span) → IsIn z (own_spans (comments_in o mode n text)) → ⊥
no_slash opens.Template mode n text is z i = i
no_slash opens.Number mode n text is z i = i
no_slash opens.String mode n text is z i = i
no_slash opens.Word mode n text is z i = i
no_slash opens.Bars mode n text is z i = cc
no_slash opens.Other mode n text is z i = i

-- The comments of a gap

gap_collected : (collect : Bool) (m : GapMode) (input : Cursor) (z : Span)
    → IsIn z (own_spans (collected collect (comments_of m.prev m.first (place input) (gap m (rest input)) (rest input)))) → HasPlaces input z
gap_collected true m input z i =
    let es = gap m (rest input) in
    let whole : written es ++ gaps.behind_gap m (rest input) ≡ rest input =
    ap (λ l. l ++ gaps.behind_gap m (rest input)) (sym (written_gap m es)) ∙ gap_is_front m (rest input) in
    let there : SpanStands (place input) (rest input) z = subst (λ l. SpanStands (place input) l z) whole (span_in_front (place input) (written es) (gaps.behind_gap m (rest input)) z (elements_stand m.prev m.first (place input) es (rest input) (gap_signed m (rest input)) z i)) in
    (place_in input z.lo.0 there.from, place_in input z.hi.0 there.to)
gap_collected false m input z i = absurd i

gap_lies : (mode : Mode) (input : Cursor) → LieUpTo input (place (behind_gap mode input)) (gap_in mode (place input) (rest input)).comments
gap_lies mode input =
    let m = gap_mode mode in
    let text = gap_spelling m (rest input) in
    let more = gaps.behind_gap m (rest input) in
    let front : text ++ more ≡ rest input = gap_is_front m (rest input) in
    let there : place (behind_gap mode input) ≡ place input + byte_len text =
    place-passed input (behind_gap mode input) (length text) refl ∙ ap (λ l. place input + byte_len l) (ap (take (length text)) (sym front) ∙ take_at text more (length text) refl) in
    record {
      order = subst (λ high. LieBetween (place input) high (gap_in mode (place input) (rest input)).comments) (sym there) (comments_lie_in_order (place input) m (rest input));
      places = gap_collected mode.settings.comments m input;
    }

-- Both

behind_lies : (mode : Mode) (before : GapView) (input here : Cursor) (n : ℕ) (text : Text) → here ≡ passed n input → rest here ≡ text → LieUpTo input (place here) before.comments
    → CommentsLie input (reading_behind mode before here text)
behind_lies mode before input here n [] moved e lies =
    record { order = lies.order; places = lies.places; beside = λ t f. absurd (none-some t f); slash = λ t f. absurd (none-some t f) }
behind_lies mode before input here n (c ∷ cs) moved e lies =
    record {
      order = more_between (place input) (place here) (place behind) before.comments own lies.order (subst (λ high. LieBetween (place here) high own) (sym ends) own_lies);
      places = λ z i. ⊎_elim (lies.places z) (λ h. places_in input here n s.spelling (drop (length s.spelling) (c ∷ cs)) z moved whole (token_stands o mode (place here) (c ∷ cs) z h)) (either z i);
      beside = λ t f z i. ⊎_elim (λ h. inl (before_token t f z h)) (λ h. inr (in_token t f z h)) (either z i);
      slash = λ t f is z i. ⊎_elim
          (λ h. before_token t f z h)
          (λ h. absurd (no_slash o mode (place here) (c ∷ cs) (ap (λ u. is_slash (kind_of u.token)) (some_same f) ∙ is) z h))
          (either z i);
    }
  where
    o : Lookahead
    o = lookahead mode before.line_break (c ∷ cs)

    s : Scanned TokenView
    s = token_at mode before.line_break (c ∷ cs)

    own : List (Comment × Bool)
    own = token_comments mode before.line_break (place here) (c ∷ cs)

    behind : Cursor
    behind = passed (length s.spelling) here

    token : SpannedView
    token = spanned before.line_break (token_found mode before.line_break (place here) (c ∷ cs))

    some_same : {t : SpannedView} → Some token ≡ Some t → token ≡ t
    some_same f = cc

    front : take (length s.spelling) (c ∷ cs) ≡ s.spelling
    front = token_at-front mode before.line_break (c ∷ cs)

    ends : place behind ≡ place here + byte_len s.spelling
    ends = place-passed here behind (length s.spelling) refl ∙ ap (λ l. place here + byte_len (take (length s.spelling) l)) e ∙ ap (λ l. place here + byte_len l) front

    whole : s.spelling ++ drop (length s.spelling) (c ∷ cs) ≡ rest here
    whole = ap (λ l. l ++ drop (length s.spelling) (c ∷ cs)) (sym front) ∙ take-append-drop (length s.spelling) (c ∷ cs) ∙ sym e

    own_lies : LieBetween (place here) (place here + byte_len s.spelling) own
    own_lies = token_lies o mode (place here) (c ∷ cs)

    either : (z : Span) → IsIn z (own_spans (before.comments ++ own)) → IsIn z (own_spans before.comments) ⊎ IsIn z (own_spans own)
    either z i = in_either z (own_spans before.comments) (own_spans own) (subst (IsIn z) (map-append own_span before.comments own) i)

    low : (t : SpannedView) → Some token ≡ Some t → place here ≡ t.span.lo.0
    low t f = ap (λ extent. extent.lo.0) (sym (token-extent mode before.line_break (place here) (c ∷ cs))) ∙ ap lo_in f

    high : (t : SpannedView) → Some token ≡ Some t → place here + byte_len s.spelling ≡ t.span.hi.0
    high t f = ap (λ extent. extent.hi.0) (sym (token-extent mode before.line_break (place here) (c ∷ cs))) ∙ ap hi_in f

    before_token : (t : SpannedView) → Some token ≡ Some t → (z : Span) → IsIn z (own_spans before.comments) → z.hi.0 ≤ t.span.lo.0
    before_token t f z h =
        let within = (one_between (place input) (place here) before.comments lies.order z h).2 in
        omega (arith, within, low t f)

    in_token : (t : SpannedView) → Some token ≡ Some t → (z : Span) → IsIn z (own_spans own) → (t.span.lo.0 ≤ z.lo.0) × (z.hi.0 ≤ t.span.hi.0)
    in_token t f z h =
        let within = one_between (place here) (place here + byte_len s.spelling) own own_lies z h in
        let first = within.0 in
        let last = within.2 in
        (omega (arith, first, low t f), omega (arith, last, high t f))

code_lies : (mode : Mode) (input : Cursor) → CommentsLie input (reading_code mode input)
unfolding reading_code
code_lies mode input =
    behind_lies mode (gap_in mode (place input) (rest input)) input (behind_gap mode input) (length (gap_spelling (gap_mode mode) (rest input))) (rest (behind_gap mode input)) refl refl (gap_lies mode input)

pub reading_lies : (mode : Mode) (input : Cursor) → CommentsLie input (reading mode input)
reading_lies mode input = go (stands_shebang mode (rest input))
  where
    go : (b : Bool) → CommentsLie input (reading_if b mode input)
    go true = record {
      order = place-passed-le input (shebang_reading input).input (length (shebang_token (rest input)).spelling) refl;
      places = λ z i. absurd i;
      beside = λ t f z i. absurd i;
      slash = λ t f is z i. absurd i;
    }
    go false = code_lies mode input
