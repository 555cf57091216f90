-- Where a slash was answered one stands, and what is read again from it is no slash and opens no template.
use Rattle.std.proofs.Common.{◌≡◌, ◌∙◌, ℕ, ◌+◌, ◌-◌, ◌<◌, ◌≤◌, Bool, true, false, not, cond, ◌||◌, ◌==◌, List, [], ◌∷◌, ◌++◌, append-nil, Option, Some, None, Result, Ok, Err, ⊎_elim, drop, take, take-append-drop, drop_of_length-le, length, length-drop, map, refl, sym, subst, ap, arith}
use Rattle.std.specs.List.{list_all}
use Rattle.std.proofs.Math.Seq.{take-length}
use Rattle.std.proofs.lemmas.Bool.{and_parts, eqb-true}
use Rattle.std.proofs.lemmas.Bool.Decides.{leb_tells}
use Rattle.std.proofs.lemmas.Option.{none-some}
use Rattle.ecma_place.specs.Atom.{AtomView}
use Rattle.ecma_place.specs.Text.{Text, byte_len, place_of}
use Rattle.ecma_place.specs.Cursor.{Cursor, HasPlace, count_within, index_of, place, place_at, rest}
use Rattle.ecma_place.specs.declared.place.BytePos.{BytePos}
use Rattle.ecma_place.proofs.CursorLemmas.{count_within-byte_len}
use Rattle.ecma_place.proofs.MoveLemmas.{place-passed-le}
use Rattle.ecma_syntax.specs.declared.operator.BinOpToken.TheVariants as bin
use Rattle.ecma_syntax.specs.declared.word.Word.{Word}
use Rattle.ecma_syntax.specs.declared.settings.NumberRule.{NumberRule}
use Rattle.ecma_token.specs.Kinds.{kind_of}
use Rattle.ecma_token.specs.View.{ErrorView, SpannedView, TokenView, plain_token, refused_template, error_token}
use Rattle.ecma_token.specs.declared.kind.TokenKind.{TokenKind}
use Rattle.ecma_token.specs.declared.kind.TokenKind.TheVariants.{BackQuote, Error, Regex}
use Rattle.ecma_token.specs.declared.token.Token.{Token, BinOp}
use Rattle.ecma_scan.specs.Expressions.{body_cutter, body_pieces, closed_expression, flags, open_expression, opens_expression, regex_value, regular_expression}
use Rattle.ecma_scan.specs.Found.{fault_behind, token_behind, value_behind}
use Rattle.ecma_scan.specs.Fronts.{begins_with, next_is}
use Rattle.ecma_scan.specs.Numbers.{Number, behind_number, found_number, is_big_number, number, number_parts, opens_fraction, refusal}
use Rattle.ecma_scan.specs.Numbers as numbers
use Rattle.ecma_scan.specs.Pieces.{pieces, remainder, spelled}
use Rattle.ecma_scan.specs.Punctuators.{Punctuator, alone_or, angle, angle_in, first_of, longest, punctuator_in, punctuators}
use Rattle.ecma_scan.specs.GapViews.{GapView}
use Rattle.ecma_scan.specs.Strings.{BadEscape, Closed, Ending, Unclosed, ending, found_string, string_cutter, string_literal, string_pieces}
use Rattle.ecma_scan.specs.Templates.{AtBackQuote, AtDollarBrace, AtEnd, TemplateEnd, TemplatePiece, last_refusal, mark_of, template_cutter, template_end, template_of, template_text, template_value, text_of, token_of_refusal}
use Rattle.ecma_state.specs.Contexts.{Contexts}
use Rattle.ecma_state.specs.Mode.{is_tpl_element, type_mode}
use Rattle.ecma_state.specs.Reading.{behind_gap, gap_in, reading, reading_again, reading_behind, reading_code, reading_if, spanned, stands_shebang}
use Rattle.ecma_state.specs.Run.{at_place, is_free_from, is_free_read, mode_of, reading_from, reading_of}
use Rattle.ecma_state.specs.Session.{LexerValue, LexerState, kept_in, kept_of, lexer_state}
use Rattle.ecma_state.specs.Slashes.{IsAnswer, StandsSlash}
use Rattle.ecma_state.specs.State.{is_slash, last_slash, opened_by, opens_template, seen_behind, slash_in}
use Rattle.ecma_state.specs.TokenAt.{lookahead, other_token, placed, punctuator_or_stray, is_borrowed, is_empty, read_opened, stray, token_found, token_of, ts1085, word_value}
use Rattle.ecma_state.specs.declared.kept.Kept.{Kept}
use Rattle.ecma_state.specs.declared.mode.Mode.{Mode}
use Rattle.ecma_state.specs.declared.lookahead.Lookahead.{Lookahead}
use Rattle.ecma_state.specs.declared.lookahead.Lookahead.TheVariants as opens
use Rattle.ecma_reads.proofs.EndLemmas.{lo_in, reading-on, token-extent}
use Rattle.ecma_reads.proofs.EndingLemmas.{opened-kept}
use Rattle.ecma_reads.proofs.ReadingLemmas.{free_comments, free_faults}
use Rattle.ecma_reads.proofs.TokenLemmas.{and-parts, empty-none}

-- A spelling that a slash begins

-- the token is no slash, or one begins how it is written
abbrev tells_slash : Punctuator → Bool
tells_slash p = not (is_slash (kind_of (plain_token p.token))) || next_is 47 p.spelling

tells-next : (b : Bool) (text : Text) → (not b || next_is 47 text) ≡ true → b ≡ true → next_is 47 text ≡ true
tells-next true text h e = h
tells-next false text h e = cc

front-next : (spelling text : Text) → next_is 47 spelling ≡ true → begins_with spelling text ≡ true → next_is 47 text ≡ true
front-next [] text h begins = cc
front-next (x ∷ xs) [] h begins = cc
front-next (x ∷ xs) (c ∷ cs) h begins = rw (eqb-true c x (and_parts (c == x) (begins_with xs cs) begins).0) h

first-slash : (ps : List Punctuator) (text : Text) (p : Punctuator) → list_all tells_slash ps ≡ true → first_of ps text ≡ Some p → is_slash (kind_of (plain_token p.token)) ≡ true → next_is 47 text ≡ true
first-slash [] text p all e h = cc
first-slash (q ∷ qs) text p all e h =
    go (begins_with q.spelling text) refl e (first-slash qs text p (and_parts (tells_slash q) (list_all tells_slash qs) all).1)
  where
    go : (b : Bool) → begins_with q.spelling text ≡ b → cond b (Some q) (first_of qs text) ≡ Some p
        → (first_of qs text ≡ Some p → is_slash (kind_of (plain_token p.token)) ≡ true → next_is 47 text ≡ true) → next_is 47 text ≡ true
    go true begins e more =
        let same : q ≡ p = cc in
        let told : tells_slash p ≡ true = ap tells_slash (sym same) ∙ (and_parts (tells_slash q) (list_all tells_slash qs) all).0 in
        front-next p.spelling text (tells-next (is_slash (kind_of (plain_token p.token))) p.spelling told h) (ap (λ r. begins_with r.spelling text) (sym same) ∙ begins)
    go false begins e more = more e h

angle-no-slash : (c : ℕ) (token : Token) → angle c ≡ Some token → is_slash (kind_of (plain_token token)) ≡ false
angle-no-slash c token e = go (c == 60) (c == 62) e
  where
    go : (less more : Bool) → cond less (Some (BinOp bin.Lt)) (cond more (Some (BinOp bin.Gt)) None) ≡ Some token → is_slash (kind_of (plain_token token)) ≡ false
    go true more e = let same : BinOp bin.Lt ≡ token = cc in ap (λ t. is_slash (kind_of (plain_token t))) (sym same)
    go false true e = let same : BinOp bin.Gt ≡ token = cc in ap (λ t. is_slash (kind_of (plain_token t))) (sym same)
    go false false e = cc

pub punctuator-slash : (type_mode : Bool) (text : Text) (p : Punctuator) → punctuator_in type_mode text ≡ Some p → is_slash (kind_of (plain_token p.token)) ≡ true → next_is 47 text ≡ true
punctuator-slash type_mode [] p e h = cc
punctuator-slash type_mode (c ∷ cs) p e h = go (angle_in type_mode c) refl e
  where
    none : (token : Token) → angle_in type_mode c ≡ Some token → is_slash (kind_of (plain_token token)) ≡ false
    none token e = by_mode type_mode e
      where
        by_mode : (b : Bool) → angle_in b c ≡ Some token → is_slash (kind_of (plain_token token)) ≡ false
        by_mode true e = angle-no-slash c token e
        by_mode false e = cc

    behind : (b : Bool) → longest b (c ∷ cs) ≡ Some p → next_is 47 (c ∷ cs) ≡ true
    behind true e = cc
    behind false e = first-slash punctuators (c ∷ cs) p refl e h

    go : (found : Option Token) → angle_in type_mode c ≡ found → alone_or found c cs ≡ Some p → next_is 47 (c ∷ cs) ≡ true
    go (Some token) stands e =
        let same : token ≡ p.token = cc in
        let never : is_slash (kind_of (plain_token p.token)) ≡ false = ap (λ t. is_slash (kind_of (plain_token t))) (sym same) ∙ none token stands in
        cc
    go None stands e = behind (opens_fraction (c ∷ cs)) e

-- The other readers read no slash

abbrev is_slash_token : Result TokenView ErrorView → Bool
is_slash_token value = is_slash (kind_of (token_of value))

behind-slash : (n : ℕ) (value : Result TokenView ErrorView) → is_slash_token (value_behind token_behind n value) ≡ is_slash_token value
behind-slash n (Ok (plain_token token)) = refl
behind-slash n (Ok (refused_template raw kind span)) = refl
behind-slash n (Ok (error_token kind span)) = refl
behind-slash n (Err error) = refl

number-no-slash : (ts1085 : Bool) (rule : NumberRule) (text : Text) → is_slash_token (number ts1085 rule text).value ≡ false
number-no-slash ts1085 rule text = go (refusal rule parts (behind_number parts text))
  where
    parts : Number
    parts = number_parts text

    big : (b : Bool) → is_slash (kind_of (numbers.token_of b parts)) ≡ false
    big true = refl
    big false = refl

    go : (refused : Option ErrorView) → is_slash_token (found_number ts1085 rule parts refused).value ≡ false
    go (Some error) = refl
    go None = big (is_big_number parts)

string-no-slash : (text : Text) → is_slash_token (string_literal text).value ≡ false
string-no-slash [] = refl
string-no-slash (quote ∷ text) = go (ending quote (remainder (string_cutter quote) tt text))
  where
    go : (end : Ending) → is_slash_token (found_string quote (quote ∷ spelled (string_cutter quote) (string_pieces quote text)) (string_pieces quote text) end).value ≡ false
    go Closed = refl
    go Unclosed = refl
    go (BadEscape spelling error) = refl

word-no-slash : (value : Result Word ErrorView) → is_slash_token (word_value value) ≡ false
word-no-slash (Ok word) = refl
word-no-slash (Err error) = refl

template-no-slash : (opened n : ℕ) (after : Bool) (text : Text) → is_slash_token (template_value opened n (template_text after text).value) ≡ false
template-no-slash opened n after text = go after (pieces template_cutter tt text) (template_end (remainder template_cutter tt text))
  where
    cooked : (refused : Option ErrorView) (ps : List TemplatePiece) → is_slash (kind_of (token_behind n (token_of_refusal refused ps))) ≡ false
    cooked None ps = refl
    cooked (Some error) ps = refl

    read : (ps : List TemplatePiece) (end : TemplateEnd) → is_slash_token (template_value opened n (text_of ps end).value) ≡ false
    read ps AtEnd = refl
    read ps AtBackQuote = cooked (last_refusal 0 None ps) ps
    read ps AtDollarBrace = cooked (last_refusal 0 None ps) ps

    mark : (end : TemplateEnd) → is_slash_token (template_value opened n (mark_of end).value) ≡ false
    mark AtEnd = refl
    mark AtBackQuote = refl
    mark AtDollarBrace = refl

    go : (after : Bool) (ps : List TemplatePiece) (end : TemplateEnd) → is_slash_token (template_value opened n (template_of after ps end).value) ≡ false
    go false ps end = read ps end
    go true [] end = mark end
    go true (piece ∷ more) end = read (piece ∷ more) end

other-slash : (mode : Mode) (text : Text) → is_slash_token (other_token mode text).value ≡ true → opens_expression text ≡ true
other-slash mode text h = go (punctuator_in (type_mode mode) text) refl h
  where
    go : (found : Option Punctuator) → punctuator_in (type_mode mode) text ≡ found → is_slash_token (punctuator_or_stray found text).value ≡ true → opens_expression text ≡ true
    go (Some p) e h = punctuator-slash (type_mode mode) text p e h
    go None e h = stray-opens text h
      where
        stray-opens : (text : Text) → is_slash_token (stray text).value ≡ true → opens_expression text ≡ true
        stray-opens [] h = cc
        stray-opens (c ∷ cs) h = cc

-- a token that is a slash is read where one stands
pub token-slash : (mode : Mode) (flag : Bool) (n : ℕ) (text : Text) → is_slash_token (token_found mode flag n text).value ≡ true → opens_expression text ≡ true
token-slash mode flag n text h = go (lookahead mode flag text) h
  where
    absurdly : {b : Bool} → b ≡ false → b ≡ true → opens_expression text ≡ true
    absurdly is_not is = cc

    go : (o : Lookahead) → is_slash_token (placed o mode n (read_opened o mode text)).value ≡ true → opens_expression text ≡ true
    go opens.Template h = absurdly (template-no-slash mode.opened.0 n (is_tpl_element mode.previous) text) h
    go opens.Number h = absurdly (behind-slash n _ ∙ number-no-slash (ts1085 mode) mode.settings.numbers text) h
    go opens.String h = absurdly (behind-slash n _ ∙ string-no-slash text) h
    go opens.Word h = absurdly (behind-slash n _ ∙ word-no-slash _) h
    go opens.Bars h = cc
    go opens.Other h = other-slash mode text (sym (behind-slash n _) ∙ h)

-- Places

pub at-index : (c : Cursor) (p : BytePos) (n : ℕ) → n ≤ length c.text → p.0 ≡ place_at c n → index_of c p.0 ≡ n
at-index c p n h e =
    let off : p.0 - c.start ≡ byte_len (take n c.text) = omega (arith, e) in
    ap (λ k. count_within k c.text) off ∙ count_within-byte_len c.text n h

take-all : (text : Text) (n : ℕ) → length text ≤ n → take n text ≡ text
take-all text n h = sym (append-nil (take n text)) ∙ ap (λ d. take n text ++ d) (sym (drop_of_length-le text h)) ∙ take-append-drop n text

pub place-there : (c : Cursor) (p : BytePos) → HasPlace c p.0 → place (at_place p c) ≡ p.0
place-there c p (n, e) =
    ⊎_elim
    (λ h. ap (place_at c) (at-index c p n h.1 e) ∙ sym e)
    (λ h. let far : length c.text < n = h.1 in
    let whole : p.0 ≡ place_at c (length c.text) = e ∙ ap (place_of c.start) (take-all c.text n (omega (arith, far)) ∙ sym (take-length c.text)) in
    ap (place_at c) (at-index c p (length c.text) (omega arith) whole) ∙ sym whole)
    (leb_tells n (length c.text))

-- the same place of the same text
pub at-there : (here c : Cursor) (x : ℕ) (xs : Text) → here.start ≡ c.start → here.text ≡ c.text → rest here ≡ x ∷ xs → rest (at_place (record { 0 = place here }) c) ≡ x ∷ xs
at-there here c x xs start text e =
    let some : length (rest here) ≡ 1 + length xs = ap length e ∙ (let one : length (x ∷ xs) ≡ 1 + length xs = omega arith in one) in
    let within : here.at ≤ length here.text = omega (arith, length-drop here.at here.text, some) in
    let same : place here ≡ place_at c here.at = ap (λ s. place_of s (take here.at here.text)) start ∙ ap (λ t. place_of c.start (take here.at t)) text in
    let index = at-index c (record { 0 = place here }) here.at (omega (arith, within, ap length text)) same in
    ap (λ n. drop n c.text) index ∙ ap (drop here.at) (sym text) ∙ e

pub has-place : (here c : Cursor) → here.start ≡ c.start → here.text ≡ c.text → HasPlace c (place here)
has-place here c start text =
    (here.at, ap (λ s. place_of s (take here.at here.text)) start ∙ ap (λ t. place_of c.start (take here.at t)) text)

-- a slash stands in each cursor of the text where it stands in one
pub stands-moved : (a b : Cursor) (opened p : BytePos) → b.start ≡ a.start → b.text ≡ a.text → StandsSlash a opened p → StandsSlash b opened p
stands-moved a b opened p start text stands =
    let whole : Cursor = record { start = a.start; text = a.text; at = b.at } in
    let same : b ≡ whole = ap (λ s. record { start = s; text = b.text; at = b.at }) start ∙ ap (λ t. record { start = a.start; text = t; at = b.at }) text in
    record {
      has_place = subst (λ (c : Cursor). HasPlace c p.0) (sym same) stands.has_place;
      opens = ap (λ (c : Cursor). opens_expression (rest (at_place p c))) same ∙ stands.opens;
      opened_before = stands.opened_before;
    }

-- What a read finds

-- where a token that was found begins, a slash stands if the token is one
pub record BeginsAt (c : Cursor) (t : SpannedView) : Type 0 where
  pub has_place : HasPlace c t.span.lo.0
  pub opens : is_slash (kind_of t.token) ≡ true → opens_expression (rest (at_place t.span.lo c)) ≡ true

begins-behind : (mode : Mode) (gap : GapView) (here c : Cursor) (text : Text) (t : SpannedView) → here.start ≡ c.start → here.text ≡ c.text → rest here ≡ text
    → (reading_behind mode gap here text).found ≡ Some t → BeginsAt c t
begins-behind mode gap here c [] t start text e found = absurd (none-some t found)
begins-behind mode gap here c (x ∷ xs) t start text e found =
    let f = token_found mode gap.line_break (place here) (x ∷ xs) in
    let same : t ≡ spanned gap.line_break f = some-same found in
    let extent = token-extent mode gap.line_break (place here) (x ∷ xs) in
    let lo : t.span.lo ≡ record { 0 = place here } = ap (λ u. u.span.lo) same ∙ ap (λ s. s.lo) extent in
    record {
      has_place = subst (λ p. HasPlace c p.0) (sym lo) (has-place here c start text);
      opens = λ h. ap (λ p. opens_expression (rest (at_place p c))) lo
          ∙ ap opens_expression (at-there here c x xs start text e)
          ∙ token-slash mode gap.line_break (place here) (x ∷ xs) (ap (λ u. is_slash (kind_of u.token)) (sym same) ∙ h);
    }
  where
    some-same : {u : SpannedView} → Some u ≡ Some t → t ≡ u
    some-same e = cc

begins-code : (mode : Mode) (input : Cursor) (t : SpannedView) → (reading_code mode input).found ≡ Some t → BeginsAt input t
unfolding reading_code
begins-code mode input t found =
    begins-behind mode (gap_in mode (place input) (rest input)) (behind_gap mode input) input (rest (behind_gap mode input)) t refl refl refl found

pub begins-reading : (mode : Mode) (input : Cursor) (t : SpannedView) → (reading mode input).found ≡ Some t → BeginsAt input t
begins-reading mode input t found = go (stands_shebang mode (rest input)) found
  where
    some-same : {u : SpannedView} → Some u ≡ Some t → t ≡ u
    some-same e = cc

    go : (b : Bool) → (reading_if b mode input).found ≡ Some t → BeginsAt input t
    go true found =
        let same = some-same found in
        let lo : t.span.lo ≡ record { 0 = place input } = ap (λ u. u.span.lo) same in
        record {
          has_place = subst (λ p. HasPlace input p.0) (sym lo) (has-place input input refl refl);
          opens = λ h. let never : is_slash (kind_of t.token) ≡ false = ap (λ u. is_slash (kind_of u.token)) same in cc;
        }
    go false found = begins-code mode input t found

-- it stands there in each cursor of the text
pub moved-begins : (a b : Cursor) (t : SpannedView) → b.start ≡ a.start → b.text ≡ a.text → BeginsAt a t → BeginsAt b t
moved-begins a b t start text begins =
    let whole : Cursor = record { start = a.start; text = a.text; at = b.at } in
    let same : b ≡ whole = ap (λ s. record { start = s; text = b.text; at = b.at }) start ∙ ap (λ t. record { start = a.start; text = t; at = b.at }) text in
    record {
      has_place = subst (λ (c : Cursor). HasPlace c t.span.lo.0) (sym same) begins.has_place;
      opens = λ h. ap (λ (c : Cursor). opens_expression (rest (at_place t.span.lo c))) same ∙ begins.opens h;
    }

-- a slash that was answered is a token
pub slash-is : (t : SpannedView) (p : BytePos) → slash_in (Some (kept_of t)) ≡ Some p → (is_slash (kind_of t.token) ≡ true) × (t.span.lo ≡ p)
slash-is t p e = by (is_slash (kind_of t.token)) refl e
  where
    by : (b : Bool) → is_slash (kind_of t.token) ≡ b → cond b (Some t.span.lo) None ≡ Some p → (is_slash (kind_of t.token) ≡ true) × (t.span.lo ≡ p)
    by true is e = (is, (let same : t.span.lo ≡ p = cc in same))
    by false is e = cc

-- What is read again is an expression, or why there is none

pub data IsExpression (t : TokenView) : Type 0 where
  AnExpression : kind_of t ≡ Regex → IsExpression t
  ARefusal : kind_of t ≡ Error → IsExpression t

pub again-kind : (n : ℕ) (text : Text) → IsExpression (token_of (value_behind token_behind n (regular_expression text).value))
again-kind n text = go (next_is 47 (remainder body_cutter tt (drop 1 text)))
  where
    body : Text
    body = spelled body_cutter (body_pieces (drop 1 text))

    closed : (value : Result AtomView ErrorView) → IsExpression (token_of (value_behind token_behind n (regex_value body value)))
    closed (Ok flags) = AnExpression refl
    closed (Err error) = ARefusal refl

    go : (b : Bool)
        → IsExpression (token_of (value_behind token_behind n (cond b (closed_expression body (flags (drop 1 (remainder body_cutter tt (drop 1 text))))) (open_expression (drop 1 text))).value))
    go true = closed _
    go false = ARefusal refl

pub expression-no-slash : (t : TokenView) → IsExpression t → is_slash (kind_of t) ≡ false
expression-no-slash t (AnExpression e) = ap is_slash e
expression-no-slash t (ARefusal e) = ap is_slash e

expression-opens-none : (contexts : Contexts) (t : TokenView) → IsExpression t → opens_template contexts (kind_of t) ≡ false
expression-opens-none contexts t (AnExpression e) = ap (opens_template contexts) e
expression-opens-none contexts t (ARefusal e) = ap (opens_template contexts) e

-- Either way

-- the text stays, and what is read stands behind the place where it began
pub record ReadsFrom (l : LexerState) (now : Cursor) : Type 0 where
  pub start : now.start ≡ l.input.start
  pub text : now.text ≡ l.input.text

pub reads-from : (l : LexerState) → ReadsFrom l (reading_of l).input
reads-from l = go l.reread
  where
    go : (r : Option BytePos) → ReadsFrom l (reading_from r l).input
    go None = let on = reading-on (mode_of l) l.input in record { start = on.start; text = on.text }
    go (Some p) = record { start = refl; text = refl }

-- the cursor does not come before the place where a template was opened
pub opened-before : (l : LexerState) (now : Cursor) → l.state.opened.0 ≤ place l.input → ((p : BytePos) → l.reread ≡ Some p → StandsSlash l.input l.state.opened p)
    → now ≡ (reading_of l).input → l.state.opened.0 ≤ place now
opened-before l now opened slash moved = go l.reread refl moved
  where
    go : (r : Option BytePos) → l.reread ≡ r → now ≡ (reading_from r l).input → l.state.opened.0 ≤ place now
    go None e moved = opened-kept (mode_of l) l.input now l.state.opened.0 opened moved
    go (Some p) e moved =
        let stands = slash p e in
        let further = place-passed-le (at_place p l.input) now _ moved in
        let there = place-there l.input p stands.has_place in
        let before = stands.opened_before in
        omega (arith, further, there, before)

-- what was found is an answer
pub is-answer : (l : LexerValue) (now : Cursor) (found : Option SpannedView) → l.state.opened.0 ≤ place l.input → ((p : BytePos) → l.reread ≡ Some p → StandsSlash l.input l.state.opened p)
    → found ≡ (reading_of (lexer_state l)).found → now ≡ (reading_of (lexer_state l)).input → IsAnswer (record l { input = now }) (kept_in found)
is-answer l now found opened slash finds moved = go l.reread refl found finds moved
  where
    from : ReadsFrom (lexer_state l) (reading_of (lexer_state l)).input
    from = reads-from (lexer_state l)

    start : now.start ≡ l.input.start
    start = ap (λ c. c.start) moved ∙ from.start

    text : now.text ≡ l.input.text
    text = ap (λ c. c.text) moved ∙ from.text

    no-slash : (t : SpannedView) (p : BytePos) → is_slash (kind_of t.token) ≡ false → slash_in (Some (kept_of t)) ≡ Some p → StandsSlash now l.state.opened p
    no-slash t p is_not e = let is = (slash-is t p e).0 in cc

    plain : (t : SpannedView) → Some t ≡ (reading (mode_of (lexer_state l)) l.input).found → (p : BytePos) → slash_in (Some (kept_of t)) ≡ Some p → StandsSlash now l.state.opened p
    plain t finds p e =
        let (is, lo) = slash-is t p e in
        let begins = begins-reading (mode_of (lexer_state l)) l.input t (sym finds) in
        let at = (reading-on (mode_of (lexer_state l)) l.input).token t (sym finds) in
        let first = at.0 in
        let here : StandsSlash l.input l.state.opened t.span.lo = record { has_place = begins.has_place; opens = begins.opens is; opened_before = omega (arith, opened, first) } in
        subst (λ q. StandsSlash now l.state.opened q) lo (stands-moved l.input now l.state.opened t.span.lo start text here)

    again : (p : BytePos) (t : SpannedView) → Some t ≡ (reading_again l.state.seen.flag (at_place p l.input)).found → IsExpression t.token
    again p t finds = subst IsExpression (sym (ap (λ u. u.token) (some-same finds))) (again-kind (place (at_place p l.input)) (rest (at_place p l.input)))
      where
        some-same : {u : SpannedView} → Some t ≡ Some u → t ≡ u
        some-same e = cc

    go : (r : Option BytePos) → l.reread ≡ r → (found : Option SpannedView) → found ≡ (reading_from r (lexer_state l)).found → now ≡ (reading_from r (lexer_state l)).input
        → IsAnswer (record l { input = now }) (kept_in found)
    go None e None finds moved = record { opens_behind = tt; slash = λ p h. cc; again = λ p h. let never : None ≡ Some p = sym e ∙ h in cc }
    go None e (Some t) finds moved =
        let at = (reading-on (mode_of (lexer_state l)) l.input).token t (sym finds) in
        let stands : place now ≡ place (reading (mode_of (lexer_state l)) l.input).input = ap place moved in
        let own = at.1 in let ends = at.2 in
        record {
          opens_behind = omega (arith, own, ends, stands);
          slash = plain t finds;
          again = λ p h. let never : None ≡ Some p = sym e ∙ h in cc;
        }
    go (Some q) e None finds moved = absurd (none-some _ finds)
    go (Some q) e (Some t) finds moved =
        let is = again q t finds in
        let further = place-passed-le (at_place q l.input) now _ moved in
        let lo : t.span.lo.0 ≡ place (at_place q l.input) = ap (λ o. lo_in o) finds in
        record {
          opens_behind = omega (arith, further, lo);
          slash = λ p h. no-slash t p (expression-no-slash t.token is) h;
          again = λ p h. ap (λ b. cond b t.span.lo l.state.opened) (expression-opens-none l.state.contexts t.token is);
        }

-- What an answer that is taken in leaves

pub answered-slash : (l : LexerValue) (answer : Option Kept) (flag : Bool) (p : BytePos) → IsAnswer l answer → last_slash (seen_behind l.state.seen flag answer) ≡ Some p
    → StandsSlash l.input (opened_by l.state answer) p
answered-slash l None flag p is e = cc
answered-slash l (Some t) flag p is e = subst (λ opened. StandsSlash l.input opened p) (sym (kept (is_slash t.kind) refl e)) (is.slash p e)
  where
    no-quote : (kind : TokenKind) → is_slash kind ≡ true → opens_template l.state.contexts kind ≡ false
    no-quote kind h = by (opens_template l.state.contexts kind) refl
      where
        by : (b : Bool) → opens_template l.state.contexts kind ≡ b → b ≡ false
        by false e = refl
        by true e = quote kind h e
          where
            quote : (kind : TokenKind) → is_slash kind ≡ true → opens_template l.state.contexts kind ≡ true → true ≡ false
            quote BackQuote h e = cc
            quote _ h e = cc

    kept : (b : Bool) → is_slash t.kind ≡ b → cond b (Some t.span.lo) None ≡ Some p → opened_by l.state (Some t) ≡ l.state.opened
    kept true h e = ap (λ b. cond b t.span.lo l.state.opened) (no-quote t.kind h)
    kept false h e = cc

pub again-slash : (l : LexerValue) (answer : Option Kept) (p : BytePos) → IsAnswer l answer → l.reread ≡ Some p → StandsSlash l.input l.state.opened p
    → StandsSlash l.input (opened_by l.state answer) p
again-slash l answer p is e stands = subst (λ opened. StandsSlash l.input opened p) (sym (is.again p e)) stands

-- what does not allocate is not faulty, and holds no comment

pub free_read_faults : (l : LexerState) → is_free_read l ≡ true → (reading_of l).faults ≡ []
free_read_faults l h = go l.reread h
  where
    go : (r : Option BytePos) → is_free_from r l ≡ true → (reading_from r l).faults ≡ []
    go None h = free_faults (mode_of l) l.input h
    go (Some p) h =
        let s = regular_expression (rest (at_place p l.input)) in
        ap (map (fault_behind (place (at_place p l.input)))) (empty-none s.faults (and-parts (is_borrowed s.value) (is_empty s.faults) h).1)

pub free_read_comments : (l : LexerState) → is_free_read l ≡ true → (reading_of l).comments ≡ []
free_read_comments l h = go l.reread h
  where
    go : (r : Option BytePos) → is_free_from r l ≡ true → (reading_from r l).comments ≡ []
    go None h = free_comments (mode_of l) l.input h
    go (Some p) h = refl
