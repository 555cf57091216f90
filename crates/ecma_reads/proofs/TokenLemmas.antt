-- The token at a place, from what the readers found.
use Rattle.std.proofs.Common.{◌≡◌, ℕ, ◌+◌, Bool, true, false, cond, not, ◌&&◌, List, [], ◌∷◌, length, take, Option, Some, None, Result, Ok, Err, map, slice_get, refl, sym, ap, ◌∙◌, arith}
use Rattle.std.specs.Prelude.{option_map, is_ok}
use Rattle.std.specs.List.{list_any}
use Rattle.ecma_place.specs.Atom.{AtomView}
use Rattle.ecma_place.specs.Text.{Text, byte_len}
use Rattle.ecma_place.specs.Cursor.{Cursor, passed}
use Rattle.ecma_place.specs.declared.place.BytePos.{BytePos}
use Rattle.ecma_place.specs.declared.place.Span.{Span}
use Rattle.ecma_syntax.specs.declared.word.Word.{Word}
use Rattle.ecma_token.specs.View.{TokenView, ErrorView, owns_nothing, plain_token}
use Rattle.ecma_scan.specs.Found.{Fault, FoundView, Scanned, error_behind, fault_behind, found_at, placeless, token_behind, span_behind, span_of, value_behind}
use Rattle.ecma_scan.specs.Punctuators.{Punctuator, found_punctuator}
use Rattle.ecma_scan.proofs.PunctuatorLemmas.{passed-zero}
use Rattle.ecma_scan.specs.Locality.{is_accepted}
use Rattle.ecma_scan.specs.Bars.{bars_at, bars_error, bars_faults, bars_spelling, bars_token, found_bars, opens_bars}
use Rattle.ecma_scan.specs.GapRecords.{BarsView, bars_found_at}
use Rattle.ecma_scan.specs.declared.gap_mode.GapMode.{GapMode}
use Rattle.ecma_scan.specs.Numbers.{is_separator}
use Rattle.ecma_scan.specs.Words.{identifier_name}
use Rattle.ecma_state.specs.TokenAt.{is_empty, is_borrowed, is_borrowed_name, is_free_token, asks_for_none, as_token, word_value, punctuator_or_stray, stray}
use Rattle.ecma_state.specs.declared.lookahead.Lookahead.{Lookahead}
use Rattle.ecma_state.specs.declared.lookahead.Lookahead.TheVariants as opens

abbrev pub view : {A : Type 0} → Result A ErrorView → List Fault → Span → Bool → FoundView A
view value faults extent line_break = record { value = value; faults = faults; extent = extent; line_break = line_break }

abbrev pub found_optionally : ℕ → Option Punctuator → FoundView (Option TokenView)
found_optionally n found = found_at (λ m. option_map (token_behind m)) n (found_punctuator found)

-- a punctuator was found
pub punctuator-some : (n : ℕ) (found : Option Punctuator) (text : Text) (t : TokenView) (faults : List Fault) (extent : Span) (line_break : Bool)
    → view (Ok (Some t)) faults extent line_break ≡ found_optionally n found → view (Ok t) faults extent line_break ≡ found_at token_behind n (punctuator_or_stray found text)
punctuator-some n (Some p) text t faults extent line_break h =
    let value : Ok (Some t) ≡ Ok (Some (plain_token p.token)) = ap (λ v. v.value) h in
    let token : t ≡ plain_token p.token = cc in
    rw token (ap (λ v. view (Ok (plain_token p.token)) v.faults v.extent v.line_break) h)
punctuator-some n None text t faults extent line_break h =
    let value : Ok (Some t) ≡ Ok None = ap (λ v. v.value) h in cc

-- and the cursor moved behind it
pub punctuator-moved : (n : ℕ) (found : Option Punctuator) (text : Text) (t : TokenView) (faults : List Fault) (extent : Span) (line_break : Bool) (old now : Cursor)
    → view (Ok (Some t)) faults extent line_break ≡ found_optionally n found → now ≡ passed (length (found_punctuator found).spelling) old
    → now ≡ passed (length (punctuator_or_stray found text).spelling) old
punctuator-moved n (Some p) text t faults extent line_break old now h moved = moved
punctuator-moved n None text t faults extent line_break old now h moved =
    let value : Ok (Some t) ≡ Ok None = ap (λ v. v.value) h in cc

-- none was found
pub punctuator-none : (n : ℕ) (found : Option Punctuator) (faults : List Fault) (extent : Span) (line_break : Bool)
    → view (Ok None) faults extent line_break ≡ found_optionally n found → found ≡ None
punctuator-none n (Some p) faults extent line_break h =
    let value : Ok None ≡ Ok (Some (plain_token p.token)) = ap (λ v. v.value) h in cc
punctuator-none n None faults extent line_break h = refl

-- then the cursor stayed
pub punctuator-stayed : (found : Option Punctuator) (old now : Cursor) → found ≡ None → now ≡ passed (length (found_punctuator found).spelling) old → now ≡ old
punctuator-stayed found old now none moved = moved ∙ ap (λ p. passed (length (found_punctuator p).spelling) old) none ∙ passed-zero old

pub stray-refused : (text : Text) → is_ok (stray text).value ≡ false
stray-refused [] = refl
stray-refused (c ∷ cs) = refl

-- a stray character
pub stray-first : (text : Text) (c : ℕ) → slice_get text 0 ≡ Some c → stray text ≡ stray (c ∷ [])
stray-first [] c e = cc
stray-first (d ∷ cs) c e = ap (λ x. stray (x ∷ [])) (let same : d ≡ c = cc in same)

pub first-front : (text : Text) (c : ℕ) → slice_get text 0 ≡ Some c → take (length (c ∷ [])) text ≡ c ∷ []
first-front [] c e = cc
first-front (d ∷ cs) c e = ap (λ x. x ∷ []) (let same : d ≡ c = cc in same)

-- an empty span at a place
pub empty-span : (n : ℕ) (pos : BytePos) (span : Span) → pos.0 ≡ n → (let at : Span = record { lo = pos; hi = pos } in span ≡ at) → span ≡ span_behind n (span_of 0 0)
empty-span n pos span e s =
    let zero : n + 0 ≡ n = omega arith in
    s ∙ ap (λ k. span_of k k) (e ∙ sym zero)

-- a word was found, as a token
pub word-found : (n : ℕ) (s : Scanned Word) (f : FoundView Word) (value : Result TokenView ErrorView) → f ≡ found_at placeless n s → value ≡ word_value f.value
    → view value f.faults f.extent f.line_break ≡ found_at token_behind n (as_token s)
word-found n s f value found is =
    ap (λ v. view v f.faults f.extent f.line_break) is
    ∙ ap (λ g. view (word_value g.value) g.faults g.extent g.line_break) found
    ∙ ap (λ v. view v (map (fault_behind n) s.faults) (span_of n (n + byte_len s.spelling)) s.line_break) (go s.value)
  where
    go : (value : Result Word ErrorView) → word_value (value_behind placeless n value) ≡ value_behind token_behind n (word_value value)
    go (Ok word) = refl
    go (Err error) = refl

-- bars were found, as a token

pub bars-found : (n : ℕ) (mode : GapMode) (text : Text) (bars : BarsView) (extent : Span) → opens_bars text ≡ true
    → Some bars ≡ option_map (bars_found_at n) (bars_at n mode text) → extent ≡ span_of n (n + byte_len (bars_spelling text))
    → view (Err bars.error) bars.faults extent false ≡ found_at token_behind n (bars_token text)
bars-found n mode text bars extent opens h e =
    let some : Some bars ≡ Some (bars_found_at n (found_bars n mode text)) = h ∙ ap (λ b. option_map (bars_found_at n) (cond b (Some (found_bars n mode text)) None)) opens in
    let same : bars ≡ bars_found_at n (found_bars n mode text) = cc in
    ap (λ b. view (Err b.error) b.faults extent false) same
    ∙ ap (λ x. view (Err (error_behind n bars_error)) (map (fault_behind n) (bars_faults text)) x false) e

-- where bars stand, some are found
pub bars-some : (n : ℕ) (mode : GapMode) (text : Text) → opens_bars text ≡ true → None ≡ option_map (bars_found_at n) (bars_at n mode text) → ⊥
bars-some n mode text opens h =
    let none : None ≡ Some (bars_found_at n (found_bars n mode text)) = h ∙ ap (λ b. option_map (bars_found_at n) (cond b (Some (found_bars n mode text)) None)) opens in
    cc

-- What does not allocate

pub and-parts : (a b : Bool) → (a && b) ≡ true → (a ≡ true) × (b ≡ true)
and-parts true b h = (refl, h)
and-parts false b h = cc

pub empty-none : {A : Type 0} → (items : List A) → is_empty items ≡ true → items ≡ []
empty-none [] h = refl
empty-none (item ∷ items) h = cc

pub record IsFreeToken (opened : Lookahead) (text : Text) (s : Scanned TokenView) : Type 0 where
  pub ok : is_ok s.value ≡ true
  pub faults : s.faults ≡ []
  pub none : asks_for_none opened text s ≡ true

pub free-parts : (opened : Lookahead) (text : Text) (s : Scanned TokenView) → is_free_token opened text s ≡ true → IsFreeToken opened text s
free-parts opened text s h =
    let one = and-parts (is_ok s.value) _ h in
    let two = and-parts (is_empty s.faults) _ one.1 in
    record { ok = one.0; faults = empty-none s.faults two.0; none = two.1 }

pub no-separator : (text : Text) (s : Scanned TokenView) → asks_for_none opens.Number text s ≡ true → list_any is_separator s.spelling ≡ false
no-separator text s h = not-true (list_any is_separator s.spelling) h
  where
    not-true : (b : Bool) → not b ≡ true → b ≡ false
    not-true true h = cc
    not-true false h = refl

-- a name that is borrowed
pub borrowed-name : (text : Text) → is_borrowed_name (identifier_name text).value ≡ true → (name : AtomView) × ((identifier_name text).value ≡ Ok name) × (name.is_borrowed ≡ true)
borrowed-name text h = go (identifier_name text).value refl h
  where
    go : (value : Result AtomView ErrorView) → (identifier_name text).value ≡ value → is_borrowed_name value ≡ true → (name : AtomView) × ((identifier_name text).value ≡ Ok name) × (name.is_borrowed ≡ true)
    go (Ok name) e h = (name, e, h)
    go (Err error) e h = cc

-- a string that asks for none is a token whose texts are slices
pub borrowed-token : (text : Text) (s : Scanned TokenView) → asks_for_none opens.String text s ≡ true → (token : TokenView) × (s.value ≡ Ok token) × (owns_nothing token ≡ true)
borrowed-token text s h = go s.value refl h
  where
    go : (value : Result TokenView ErrorView) → s.value ≡ value → is_borrowed value ≡ true → (token : TokenView) × (s.value ≡ Ok token) × (owns_nothing token ≡ true)
    go (Ok token) e h = (token, e, h)
    go (Err error) e h = cc

pub ok-accepted : (value : Result TokenView ErrorView) → is_ok value ≡ true → is_accepted value ≡ true
ok-accepted (Ok token) h = refl
ok-accepted (Err error) h = cc
