-- A token that was found at a place, and the same token by its own characters.
use Rattle.std.proofs.Common.{◌≡◌, ◌∙◌, ℕ, ◌+◌, ◌-◌, Bool, false, ◌||◌, ◌∷◌, ◌++◌, Result, Ok, Err, append_assoc, drop, length, take, take-append-drop, refl, sym, ap, subst, arith}
use Rattle.ecma_place.specs.Cursor.{Cursor, place, rest}
use Rattle.ecma_place.specs.Text.{Text, byte_len, place_of, slice_between}
use Rattle.ecma_place.specs.declared.place.Span.{Span}
use Rattle.ecma_place.proofs.TextLemmas.{byte_len-append, slice_between-parts}
use Rattle.ecma_parts.specs.Found.{FoundView, Scanned, span_of, token_behind, value_behind}
use Rattle.ecma_parts.specs.Templates.{template_value}
use Rattle.ecma_state.specs.Reading.{spanned}
use Rattle.ecma_state.specs.Session.{kept_of}
use Rattle.ecma_state.specs.State.{is_error}
use Rattle.ecma_state.specs.TokenAt.{placed, token_of}
use Rattle.ecma_state.specs.declared.mode.Mode.{Mode}
use Rattle.ecma_state.specs.declared.lookahead.Lookahead.{Lookahead}
use Rattle.ecma_state.specs.declared.lookahead.Lookahead.TheVariants as opens
use Rattle.ecma_parts.proofs.PlacedKinds.{kind-behind}
use Rattle.ecma_token.specs.Kinds.{kind_of}
use Rattle.ecma_token.specs.View.{ErrorView, SpannedView, TokenView, error_token, plain_token, refused_template}
use Rattle.ecma_token.specs.declared.kind.TokenKind.{TokenKind}
use Rattle.ecma_parts.specs.BareReads.{Bare, bare, is_refused}
use Rattle.ecma_clean_reads.specs.Canonical.{Own, own_in}
use Rattle.ecma_clean_reads.specs.Stages.{token_from}

abbrev pub own_of : Bare → Own
own_of p = record { kind = kind_of p.kind; text = p.bytes; flag = p.flag }

-- A token that is no error is moved to its place

pub value-token : (n : ℕ) (v : Result TokenView ErrorView) → token_of (value_behind token_behind n v) ≡ token_behind n (token_of v)
value-token n (Ok t) = refl
value-token n (Err error) = refl

template-token : (opened n : ℕ) (v : Result TokenView ErrorView) → is_error (kind_of (token_of v)) ≡ false → token_of (template_value opened n v) ≡ token_behind n (token_of v)
template-token opened n (Ok t) h = refl
template-token opened n (Err error) h = cc

pub placed-token : (o : Lookahead) (mode : Mode) (n : ℕ) (s : Scanned TokenView) → is_refused s ≡ false → token_of (placed o mode n s).value ≡ token_behind n (token_of s.value)
placed-token opens.Template mode n s h = template-token mode.opened.0 n s.value h
placed-token opens.Number mode n s h = value-token n s.value
placed-token opens.String mode n s h = value-token n s.value
placed-token opens.Word mode n s h = value-token n s.value
placed-token opens.Bars mode n s h = value-token n s.value
placed-token opens.Other mode n s h = value-token n s.value

pub placed-break : (o : Lookahead) (mode : Mode) (n : ℕ) (s : Scanned TokenView) → (placed o mode n s).line_break ≡ s.line_break
placed-break opens.Template mode n s = refl
placed-break opens.Number mode n s = refl
placed-break opens.String mode n s = refl
placed-break opens.Word mode n s = refl
placed-break opens.Bars mode n s = refl
placed-break opens.Other mode n s = refl

-- moved there and back

span-back : (n : ℕ) (lo hi : ℕ) → span_of ((n + lo) - n) ((n + hi) - n) ≡ span_of lo hi
span-back n lo hi =
    let low : (n + lo) - n ≡ lo = omega arith in
    let high : (n + hi) - n ≡ hi = omega arith in rw (low, high) refl

pub token-back : (n : ℕ) (t : TokenView) → token_from n (token_behind n t) ≡ t
token-back n (plain_token token) = refl
token-back n (refused_template raw kind span) = ap (refused_template raw kind) (span-back n span.lo.0 span.hi.0)
token-back n (error_token kind span) = ap (error_token kind) (span-back n span.lo.0 span.hi.0)

-- Where a token stands

-- the characters between two places
own-slice : (there : Cursor) (b : Text) → take (length b) (rest there) ≡ b → slice_between there.start there.text (place there) (place there + byte_len b) ≡ b
own-slice there b front =
    let a : Text = take there.at there.text in
    let r : Text = drop (length b) (rest there) in
    let left : b ++ r ≡ rest there = ap (λ l. l ++ r) (sym front) ∙ take-append-drop (length b) (rest there) in
    let cut : (a ++ b) ++ r ≡ there.text = append_assoc a b r ∙ ap (λ l. a ++ l) left ∙ take-append-drop there.at there.text in
    let whole : place_of there.start (a ++ b) ≡ place there + byte_len b = omega (arith, byte_len-append a b) in
    subst (λ (t : Text). slice_between there.start t (place there) (place there + byte_len b) ≡ b) cut
    (subst (λ (h : ℕ). slice_between there.start ((a ++ b) ++ r) (place there) h ≡ b) whole (slice_between-parts there.start a b r))

-- a token stands in the text of a cursor, and a text is what follows its first place
pub record Stands (c : Cursor) (t : SpannedView) (p : Bare) (here : Text) : Type 0 where
  pub there : Cursor
  pub start : there.start ≡ c.start
  pub text : there.text ≡ c.text
  pub begins : t.span.lo ≡ record { 0 = place there }
  pub follows : rest there ≡ here
  pub first : ℕ
  pub behind : Text
  pub some : here ≡ first ∷ behind
  pub token : t.token ≡ token_behind t.span.lo.0 p.kind
  pub own : own_in c (kept_of t) ≡ own_of p

pub stands-kind : (c : Cursor) (t : SpannedView) (p : Bare) (here : Text) → Stands c t p here → kind_of t.token ≡ kind_of p.kind
stands-kind c t p here k = ap (λ o. o.kind) k.own

pub stands-flag : (c : Cursor) (t : SpannedView) (p : Bare) (here : Text) → Stands c t p here → t.had_line_break ≡ p.flag
stands-flag c t p here k = ap (λ o. o.flag) k.own

-- what is found at a place stands there
pub stands-found : (c there : Cursor) (flag : Bool) (f : FoundView TokenView) (s : Scanned TokenView) (x : ℕ) (xs : Text) → there.start ≡ c.start → there.text ≡ c.text → rest there ≡ x ∷ xs
    → take (length s.spelling) (rest there) ≡ s.spelling → f.extent ≡ span_of (place there) (place there + byte_len s.spelling) → token_of f.value ≡ token_behind (place there) (token_of s.value) → f.line_break ≡ s.line_break
    → Stands c (spanned flag f) (bare flag s) (x ∷ xs)
stands-found c there flag f s x xs start text left front extent token break =
    let own : TokenKind → Text → Bool → Own = λ kind text flag. record { kind = kind; text = text; flag = flag } in
    let kind : kind_of (token_of f.value) ≡ kind_of (token_of s.value) = ap kind_of token ∙ kind-behind (place there) (token_of s.value) in
    let slice : slice_between c.start c.text f.extent.lo.0 f.extent.hi.0 ≡ s.spelling =
    ap (λ (e : Span). slice_between c.start c.text e.lo.0 e.hi.0) extent
    ∙ ap (λ n. slice_between n c.text (place there) (place there + byte_len s.spelling)) (sym start)
    ∙ ap (λ t. slice_between there.start t (place there) (place there + byte_len s.spelling)) (sym text)
    ∙ own-slice there s.spelling front in
    record {
      there = there;
      start = start;
      text = text;
      begins = ap (λ (e : Span). e.lo) extent;
      follows = left;
      first = x;
      behind = xs;
      some = refl;
      token = token ∙ ap (λ (e : Span). token_behind e.lo.0 (token_of s.value)) (sym extent);
      own = ap (λ k. own k (slice_between c.start c.text f.extent.lo.0 f.extent.hi.0) (flag || f.line_break)) kind
          ∙ ap (λ t. own (kind_of (token_of s.value)) t (flag || f.line_break)) slice
          ∙ ap (λ b. own (kind_of (token_of s.value)) s.spelling (flag || b)) break;
    }
