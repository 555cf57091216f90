-- The comments of elements begin and end at places of the text that the elements are.
use Rattle.std.proofs.Common.{◌≡◌, ◌∙◌, ℕ, zero, suc, ◌+◌, ◌-◌, ◌<◌, drop, Bool, true, false, not, cond, ◌&&◌, ◌||◌, ◌==◌, List, [], ◌∷◌, ◌++◌, append-nil, append_assoc, length, map, take, take_at, Option, Some, None, ⊎_elim, refl, sym, subst, ap, arith, eqb-true}
use Rattle.std.specs.Prelude.{codes}
use Rattle.std.specs.Char.{len_utf8}
use Rattle.std.proofs.lemmas.List.{map-append}
use Rattle.std.proofs.lemmas.Str.{encode_ascii, length-encode}
use Rattle.ecma_place.specs.Character.{is_white_space}
use Rattle.ecma_place.specs.Cursor.{Cursor, HasPlace, passed, place, rest}
use Rattle.ecma_place.specs.Text.{Text, byte_len}
use Rattle.ecma_place.specs.declared.comment.Comment.{Comment}
use Rattle.ecma_place.specs.declared.place.Span.{Span}
use Rattle.ecma_place.proofs.CursorLemmas.{byte_len-cons}
use Rattle.ecma_place.proofs.MoveLemmas.{byte_len-append, place-passed}
use Rattle.ecma_token.specs.declared.kind.TokenKind.{TokenKind}
use Rattle.ecma_reads.specs.declared.gap_mode.GapMode.{GapMode}
use Rattle.ecma_reads.specs.Bars.{bars_elements, behind_bars_line, common_cutter, common_element}
use Rattle.ecma_reads.specs.Comments.{behind_element, comment_of, comments_of, paired}
use Rattle.ecma_reads.specs.Found.{span_of}
use Rattle.ecma_reads.specs.Fronts.{begins_with, line, next_is}
use Rattle.ecma_reads.specs.Gaps.{AreElements, Blank, BlockComment, Element, HtmlClosing, HtmlOpening, IsElement, LineComment, Marker, OpenComment, block_of, comment_body, element_text, elements, end_of, flag_behind, gap, gap_cutter, marks}
use Rattle.ecma_reads.specs.Pieces.{onward, pieces_behind, remainder, spelled}
use Rattle.ecma_reads.proofs.GapForms.{elements_are_ruled}
use Rattle.ecma_reads.proofs.GapLaws.{gap_cases}
use Rattle.ecma_classes.proofs.MemberLemmas.{IsIn, in_either}
use Rattle.ecma_pieces.proofs.ListLemmas.{only}

-- Places of a text

-- a place of a text that stands at the place n: that behind a beginning of it
pub record StandsFrom (n : ℕ) (text : Text) (p : ℕ) : Type 0 where
  pub front : Text
  pub behind : Text
  pub parts : front ++ behind ≡ text
  pub reach : p ≡ n + byte_len front

pub record SpanStands (n : ℕ) (text : Text) (z : Span) : Type 0 where
  pub from : StandsFrom n text z.lo.0
  pub to : StandsFrom n text z.hi.0

-- one of what is left of a cursor is one of the cursor's text
pub place_in : (c : Cursor) (p : ℕ) → StandsFrom (place c) (rest c) p → HasPlace c p
place_in c p s =
    let n : ℕ = length s.front in
    let cut : take n (rest c) ≡ s.front = ap (take n) (sym s.parts) ∙ take_at s.front s.behind n refl in
    (c.at + n, s.reach ∙ ap (λ l. place c + byte_len l) (sym cut) ∙ sym (place-passed c (passed n c) n refl))

-- one of a beginning of a text, and one of what stands behind one
in_front : (n : ℕ) (first more : Text) (p : ℕ) → StandsFrom n first p → StandsFrom n (first ++ more) p
in_front n first more p s =
    record {
      front = s.front;
      behind = s.behind ++ more;
      parts = sym (append_assoc s.front s.behind more) ∙ ap (λ l. l ++ more) s.parts;
      reach = s.reach;
    }

in_back : (n : ℕ) (first more : Text) (p : ℕ) → StandsFrom (n + byte_len first) more p → StandsFrom n (first ++ more) p
in_back n first more p s =
    let own = s.reach in
    record {
      front = first ++ s.front;
      behind = s.behind;
      parts = append_assoc first s.front s.behind ∙ ap (λ l. first ++ l) s.parts;
      reach = omega (arith, own, byte_len-append first s.front);
    }

pub span_in_front : (n : ℕ) (first more : Text) (z : Span) → SpanStands n first z → SpanStands n (first ++ more) z
span_in_front n first more z s =
    record { from = in_front n first more z.lo.0 s.from; to = in_front n first more z.hi.0 s.to }

span_in_back : (n : ℕ) (first more : Text) (z : Span) → SpanStands (n + byte_len first) more z → SpanStands n (first ++ more) z
span_in_back n first more z s =
    record { from = in_back n first more z.lo.0 s.from; to = in_back n first more z.hi.0 s.to }

-- The comment of one element

-- the signs of a marker are of one byte each
abbrev pub HasSigns : Element → Type 0
HasSigns (Blank c) = Unit {0}
HasSigns (LineComment line) = Unit {0}
HasSigns (BlockComment body) = Unit {0}
HasSigns (OpenComment body) = Unit {0}
HasSigns (HtmlOpening line) = Unit {0}
HasSigns (HtmlClosing line) = Unit {0}
HasSigns (Marker c line) = c < 128

abbrev pub AllSigned : List Element → Type 0
AllSigned [] = Unit {0}
AllSigned (e ∷ es) = HasSigns e × AllSigned es

one_byte : (c : ℕ) (cs : Text) → c < 128 → byte_len (c ∷ cs) ≡ 1 + byte_len cs
one_byte c cs low =
    let one : len_utf8 c ≡ 1 = sym (length-encode c) ∙ ap length (encode_ascii c low) in
    byte_len-cons c cs ∙ ap (λ k. k + byte_len cs) one

two_bytes : (c d : ℕ) → c < 128 → d < 128 → byte_len (c ∷ d ∷ []) ≡ 2
two_bytes c d first second = omega (arith, one_byte c (d ∷ []) first, one_byte d [] second)

three_bytes : (c d e : ℕ) → c < 128 → d < 128 → e < 128 → byte_len (c ∷ d ∷ e ∷ []) ≡ 3
three_bytes c d e first second third =
    omega (arith, one_byte c (d ∷ e ∷ []) first, two_bytes d e second third)

-- a span from behind the front of a text to its end
to_end : (n : ℕ) (text front behind : Text) (low : ℕ) → front ++ behind ≡ text → low ≡ n + byte_len front → (z : Span) → IsIn z (span_of low (n + byte_len text) ∷ []) → SpanStands n text z
to_end n text front behind low parts reach z i =
    subst (SpanStands n text) (sym (only z (span_of low (n + byte_len text)) i))
    record {
      from = record { front = front; behind = behind; parts = parts; reach = reach };
      to = record { front = text; behind = []; parts = append-nil text; reach = refl };
    }

marker_stands : (n c : ℕ) (line : Text) → c < 128 → (b : Bool) → (z : Span) → IsIn z (span_of (n + cond b 3 2) (end_of n (Marker c line)) ∷ []) → SpanStands n (element_text (Marker c line)) z
marker_stands n c line low true z i =
    to_end n (element_text (Marker c line)) (c ∷ c ∷ c ∷ []) (c ∷ c ∷ c ∷ c ∷ line) (n + 3) refl (ap (λ k. n + k) (sym (three_bytes c c c low low low))) z i
marker_stands n c line low false z i =
    to_end n (element_text (Marker c line)) (c ∷ c ∷ []) (c ∷ c ∷ c ∷ c ∷ c ∷ line) (n + 2) refl (ap (λ k. n + k) (sym (two_bytes c c low low))) z i

-- where comments stand
abbrev pub own_span : Comment × Bool → Span
own_span c = c.0.span

abbrev pub own_spans : List (Comment × Bool) → List Span
own_spans found = map own_span found

element_stands : (prev : Option TokenKind) (flag : Bool) (behind : Text) (n : ℕ) (e : Element) → HasSigns e
    → (z : Span) → IsIn z (own_spans (paired prev flag behind (comment_of n e))) → SpanStands n (element_text e) z
element_stands prev flag behind n (Blank c) signs z i = absurd i
element_stands prev flag behind n (LineComment line) signs z i =
    to_end n (element_text (LineComment line)) [] (element_text (LineComment line)) n refl (omega arith) z i
element_stands prev flag behind n (BlockComment body) signs z i =
    to_end n (element_text (BlockComment body)) [] (element_text (BlockComment body)) n refl (omega arith) z i
element_stands prev flag behind n (OpenComment body) signs z i = absurd i
element_stands prev flag behind n (HtmlOpening line) signs z i =
    let low : 60 < 128 = omega arith in
    to_end n (element_text (HtmlOpening line)) (60 ∷ []) (codes "!--" ++ line) (n + 1) refl (ap (λ k. n + k) (sym (one_byte 60 [] low))) z i
element_stands prev flag behind n (HtmlClosing line) signs z i =
    to_end n (element_text (HtmlClosing line)) (codes "-->") line (n + 3) refl (ap (λ k. n + k) (sym (three_bytes 45 45 62 (omega arith) (omega arith) (omega arith)))) z i
element_stands prev flag behind n (Marker c line) signs z i = marker_stands n c line signs (c == 61 || c == 62) z i

-- Those of elements in a row

-- what is written of elements
abbrev pub written : List Element → Text
written [] = []
written (e ∷ es) = element_text e ++ written es

pub elements_stand : (prev : Option TokenKind) (flag : Bool) (n : ℕ) (es : List Element) (text : Text) → AllSigned es
    → (z : Span) → IsIn z (own_spans (comments_of prev flag n es text)) → SpanStands n (written es) z
elements_stand prev flag n [] text signs z i = absurd i
elements_stand prev flag n (e ∷ es) text signs z i =
    let behind = behind_element e text in
    let own = paired prev flag behind (comment_of n e) in
    let more = comments_of prev (flag_behind flag e) (end_of n e) es behind in
    ⊎_elim
    (λ h. span_in_front n (element_text e) (written es) z (element_stands prev flag behind n e signs.0 z h))
    (λ h. span_in_back n (element_text e) (written es) z (elements_stand prev (flag_behind flag e) (end_of n e) es behind signs.1 z h))
    (in_either z (own_spans own) (own_spans more) (subst (IsIn z) (map-append own_span own more) i))

-- The elements of gaps and of markers of bars have such signs

pub written_gap : (mode : GapMode) (es : List Element) → spelled (gap_cutter mode) es ≡ written es
written_gap mode [] = refl
written_gap mode (e ∷ es) = ap (λ l. element_text e ++ l) (written_gap mode es)

pub written_common : (es : List Element) → spelled common_cutter es ≡ written es
written_common [] = refl
written_common (e ∷ es) = ap (λ l. element_text e ++ l) (written_common es)

marks_low : (type_mode : Bool) (c : ℕ) (text : Text) → marks type_mode c text ≡ true → c < 128
marks_low type_mode c text h = go (c == 61) (c == 60) (c == 62) refl refl refl h
  where
    is : (d : ℕ) → d < 128 → (c == d) ≡ true → c < 128
    is d low e = let same : c ≡ d = eqb-true c d e in omega (arith, same, low)

    go : (x y z : Bool) → (c == 61) ≡ x → (c == 60) ≡ y → (c == 62) ≡ z → (x || (((y || z) && not type_mode) && next_is 32 text)) ≡ true → c < 128
    go true y z e f g h = is 61 (omega arith) e
    go false true z e f g h = is 60 (omega arith) f
    go false false true e f g h = is 62 (omega arith) g
    go false false false e f g h = cc

ruled_signs : (type_mode flag : Bool) (e : Element) (more : Text) → IsElement type_mode flag e more → HasSigns e
ruled_signs type_mode flag (Blank c) more is = tt
ruled_signs type_mode flag (LineComment line) more is = tt
ruled_signs type_mode flag (BlockComment body) more is = tt
ruled_signs type_mode flag (OpenComment body) more is = tt
ruled_signs type_mode flag (HtmlOpening line) more is = tt
ruled_signs type_mode flag (HtmlClosing line) more is = tt
ruled_signs type_mode flag (Marker c line) more is = marks_low type_mode c line is.1

all_ruled : (mode : GapMode) (flag : Bool) (es : List Element) (more : Text) → AreElements mode flag es more → AllSigned es
all_ruled mode flag [] more are = tt
all_ruled mode flag (e ∷ es) more are = (
  ruled_signs mode.type_mode flag e (spelled (gap_cutter mode) es ++ more) are.0,
  all_ruled mode (flag_behind flag e) es more are.1,
)

pub gap_signed : (mode : GapMode) (text : Text) → AllSigned (gap mode text)
gap_signed mode text =
    let ruled = (elements_are_ruled mode text).0 in
    gap_cases AllSigned mode text tt (all_ruled mode mode.first (elements mode text) (remainder (gap_cutter mode) mode.first text) ruled)

-- white space and comments are no markers
abbrev SignedIf : Option Element → Type 0
SignedIf None = Unit {0}
SignedIf (Some e) = HasSigns e

block_signed : (found : Option Text) (text : Text) → HasSigns (block_of found text)
block_signed (Some body) text = tt
block_signed None text = tt

common_signed : (text : Text) → SignedIf (common_element text)
common_signed [] = tt
common_signed (c ∷ cs) = go (is_white_space c) (begins_with (codes "//") (c ∷ cs)) (begins_with (codes "/*") (c ∷ cs))
  where
    go : (x y z : Bool) → SignedIf (cond x (Some (Blank c)) (cond y (Some (LineComment (line (drop 1 cs)))) (cond z (Some (block_of (comment_body (drop 1 cs)) (drop 1 cs))) None)))
    go true y z = tt
    go false true z = tt
    go false false true = block_signed (comment_body (drop 1 cs)) (drop 1 cs)
    go false false false = tt

common_all : (n : ℕ) (text : Text) → AllSigned (pieces_behind common_cutter tt n text)
common_all n [] = tt
common_all (suc n) (c ∷ cs) = common_all n cs
common_all zero (c ∷ cs) = go (common_element (c ∷ cs)) (common_signed (c ∷ cs)) (λ m. common_all m cs)
  where
    go : (found : Option Element) → SignedIf found → ((m : ℕ) → AllSigned (pieces_behind common_cutter tt m cs))
        → AllSigned (onward found (λ e. pieces_behind common_cutter tt (length (element_text e) - 1) cs))
    go None signs more = tt
    go (Some e) signs more = (signs, more (length (element_text e) - 1))

pub bars_signed : (text : Text) → AllSigned (bars_elements text)
bars_signed text = (omega arith, common_all 0 (behind_bars_line text))
