-- What is found of a regular expression, closed or not.
use Rattle.std.proofs.Common.{◌≡◌, ℕ, ◌+◌, true, false, List, [], ◌∷◌, ◌++◌, length, take, drop, map, Some, Result, Ok, Err, OnOk, refl, sym, ap, ◌∙◌, arith, length-append, encode_utf8_all, eqb-true}
use Rattle.std.specs.Prelude.{slice_get}
use Rattle.ecma_place.specs.Text.{Text, byte_len}
use Rattle.ecma_place.specs.Atom.{AtomView, borrowed_atom}
use Rattle.ecma_place.specs.declared.place.Span.{Span}
use Rattle.ecma_place.specs.Cursor.{Cursor, rest, place, passed}
use Rattle.ecma_place.proofs.MoveLemmas.{byte_len-append, place-passed}
use Rattle.ecma_token.specs.View.{ErrorView, TokenView, plain_kind, plain_token, owns_nothing}
use Rattle.ecma_token.specs.declared.error.SyntaxError.{UnterminatedRegExp}
use Rattle.ecma_token.specs.declared.token.Token.{Regex}
use Rattle.ecma_grammar.specs.Found.{Fault, Scanned, FoundView, error_behind, fault_behind, value_behind, token_behind, placeless, found_at, span_of}
use Rattle.ecma_grammar.specs.Fronts.{next_is, in_line, line, behind_line}
use Rattle.ecma_grammar.specs.Pieces.{spelled, remainder}
use Rattle.ecma_grammar.specs.Expressions.{slashed, regex_value, closed_expression, open_expression, expression_behind, regular_expression, flags, no_flags, body_cutter, body_pieces}
use Rattle.ecma_regexp.specs.WrittenExpressions.{regex_of, behind_all, at_line_end}
use Rattle.ecma_escape.proofs.EscapeForms.{passed-both}
use Rattle.ecma_grammar.proofs.SignLemmas.{rest-behind}
use Rattle.ecma_grammar.proofs.EscapeLaws.{begins_is}
use Rattle.ecma_regexp.proofs.ExpressionLaws.{body_is_cutter}
use Rattle.ecma_grammar.proofs.Fronts.{front_after}
use Rattle.ecma_place.proofs.RunLemmas.{first-cons}
use Rattle.ecma_grammar.proofs.NumberFound.{front-taken}
use Rattle.ecma_grammar.proofs.PieceLemmas.{tiling}
use Rattle.ecma_grammar.proofs.PartFaults.{all_shifted}

error_shifted : (m n k : ℕ) (e : ErrorView) → m + n ≡ k → error_behind k e ≡ error_behind m (error_behind n e)
error_shifted m n k e sum =
    let low : k + e.span.lo.0 ≡ m + (n + e.span.lo.0) = omega arith in
    let high : k + e.span.hi.0 ≡ m + (n + e.span.hi.0) = omega arith in
    let error : ℕ → ℕ → ErrorView = λ (a b : ℕ). record { kind = e.kind; span = span_of a b } in
    ap (λ (a : ℕ). error a (k + e.span.hi.0)) low ∙ ap (λ (b : ℕ). error (m + (n + e.span.lo.0)) b) high

value_shifted : (start p : ℕ) (text : Text) (v : Result AtomView ErrorView) → start + byte_len (slashed text) ≡ p
    → regex_of (borrowed_atom (encode_utf8_all text)) (value_behind placeless p v) ≡ value_behind token_behind start (regex_value text v)
value_shifted start p text (Ok flags) sum = refl
value_shifted start p text (Err e) sum = ap Err (error_shifted start (byte_len (slashed text)) p e sum)

abbrev pub seen : Result TokenView ErrorView → List Fault → Span → FoundView TokenView
seen value faults extent = record { value = value; faults = faults; extent = extent; line_break = false }

pub closed_found : (start p : ℕ) (text : Text) (s : Scanned AtomView) (view : FoundView AtomView) (body : AtomView) (value : Result TokenView ErrorView) (extent : Span)
    → start + byte_len (slashed text) ≡ p → view ≡ found_at placeless p s → body ≡ borrowed_atom (encode_utf8_all text) → value ≡ regex_of body view.value
    → extent ≡ span_of start view.extent.hi.0 → seen value view.faults extent ≡ found_at token_behind start (closed_expression text s)
closed_found start p text s view body value extent sum is b v x =
    let k : ℕ = byte_len (slashed text) in
    let val : value ≡ value_behind token_behind start (regex_value text s.value) =
    v ∙ ap (λ a. regex_of a view.value) b ∙ ap (λ (w : FoundView AtomView). regex_of (borrowed_atom (encode_utf8_all text)) w.value) is ∙ value_shifted start p text s.value sum in
    let said : view.faults ≡ map (fault_behind start) (map (fault_behind k) s.faults) = ap (λ (w : FoundView AtomView). w.faults) is ∙ sym (all_shifted start k p s.faults sum) in
    let long : p + byte_len s.spelling ≡ start + byte_len (slashed text ++ s.spelling) = omega (arith, byte_len-append (slashed text) s.spelling) in
    let ends : extent ≡ span_of start (start + byte_len (slashed text ++ s.spelling)) =
    x ∙ ap (λ (w : FoundView AtomView). span_of start w.extent.hi.0) is ∙ ap (span_of start) long in
    rw (val, said, ends) refl

-- the place behind the slash that closes a body
pub slash_place : (old one : Cursor) (start : ℕ) (text : Text) → slice_get (rest old) 0 ≡ Some 47 → one ≡ passed 1 old → start + byte_len (47 ∷ text) ≡ place old
    → start + byte_len (slashed text) ≡ place one
slash_place old one start text slash moved sum =
    let one_taken : take 1 (rest old) ≡ 47 ∷ [] = ap (take 1) (first-cons (rest old) 47 slash) in
    let there = place-passed old one 1 moved ∙ ap (λ t. place old + byte_len t) one_taken in
    omega (arith, there, byte_len-append (47 ∷ text) (47 ∷ []))

-- an expression that a slash closes

on_closed : (text : Text) → true ≡ next_is 47 (remainder body_cutter tt text)
    → closed_expression (spelled body_cutter (body_pieces text)) (flags (drop 1 (remainder body_cutter tt text))) ≡ expression_behind text
on_closed text e = rw (← e) refl

on_open : (text : Text) → false ≡ next_is 47 (remainder body_cutter tt text) → open_expression text ≡ expression_behind text
on_open text e = rw (← e) refl

pub regex_closed : (old one two : Cursor) → one ≡ passed 1 old → true ≡ next_is 47 (remainder body_cutter tt (rest one)) → two ≡ behind_all body_cutter one
    → closed_expression (spelled body_cutter (body_pieces (rest one))) (flags (drop 1 (rest two))) ≡ regular_expression (rest old)
regex_closed old one two first closed moved =
    ap (λ t. closed_expression (spelled body_cutter (body_pieces (rest one))) (flags (drop 1 t))) (rest-behind one two _ moved)
    ∙ on_closed (rest one) closed ∙ ap expression_behind (rest-behind old one 1 first)

-- the slash that closes the body
pub slash_there : (one two : Cursor) → true ≡ next_is 47 (remainder body_cutter tt (rest one)) → two ≡ behind_all body_cutter one → slice_get (rest two) 0 ≡ Some 47
slash_there one two closed moved = first (rest two) (ap (next_is 47) (rest-behind one two _ moved) ∙ sym closed)
  where
    first : (text : Text) → next_is 47 text ≡ true → slice_get text 0 ≡ Some 47
    first [] e = cc
    first (c ∷ cs) e = ap Some (eqb-true c 47 e)

pub regex_open : (old one : Cursor) → one ≡ passed 1 old → false ≡ next_is 47 (remainder body_cutter tt (rest one)) → open_expression (rest one) ≡ regular_expression (rest old)
regex_open old one first open_end = on_open (rest one) open_end ∙ ap expression_behind (rest-behind old one 1 first)

pub body_taken : (one : Cursor) → take (length (spelled body_cutter (body_pieces (rest one)))) (rest one) ≡ spelled body_cutter (body_pieces (rest one))
body_taken one = front-taken (spelled body_cutter (body_pieces (rest one))) (remainder body_cutter tt (rest one)) (rest one) (tiling body_cutter body_is_cutter tt (rest one))

slash_one : (old one : Cursor) → next_is 47 (rest old) ≡ true → one ≡ passed 1 old → place one ≡ place old + byte_len (47 ∷ [])
slash_one old one opens first =
    place-passed old one 1 first ∙ ap (λ t. place old + byte_len t) (ap (take 1) (begins_is 47 (rest old) opens))

pub body_place : (old one two : Cursor) (start : ℕ) → next_is 47 (rest old) ≡ true → one ≡ passed 1 old → two ≡ behind_all body_cutter one → start ≡ place old
    → start + byte_len (47 ∷ spelled body_cutter (body_pieces (rest one))) ≡ place two
body_place old one two start opens first moved e =
    let body : Text = spelled body_cutter (body_pieces (rest one)) in
    let there = place-passed one two _ moved ∙ ap (λ t. place one + byte_len t) (body_taken one) in
    omega (arith, slash_one old one opens first, there, byte_len-append (47 ∷ []) body, e)

pub closed_moved : (old one two now : Cursor) → one ≡ passed 1 old → true ≡ next_is 47 (remainder body_cutter tt (rest one)) → two ≡ behind_all body_cutter one
    → now ≡ passed (1 + length (flags (drop 1 (rest two))).spelling) two → now ≡ passed (length (regular_expression (rest old)).spelling) old
closed_moved old one two now first closed moved last =
    let body : Text = spelled body_cutter (body_pieces (rest one)) in
    let m : ℕ = length (flags (drop 1 (rest two))).spelling in
    let size = ap (λ (s : Scanned TokenView). length s.spelling) (regex_closed old one two first closed moved) in
    passed-both old one now 1 (length body + (1 + m)) _ first (passed-both one two now (length body) (1 + m) _ moved last refl)
    (omega (arith, size, length-append (slashed body) (flags (drop 1 (rest two))).spelling, length-append body (47 ∷ [])))

pub regex_flags : (body : Text) (v : Result AtomView ErrorView) (token : TokenView) → regex_value body v ≡ Ok token → owns_nothing token ≡ true
    → (text : AtomView) × (v ≡ Ok text) × (text.is_borrowed ≡ true)
regex_flags body (Err e) token value owns = cc
regex_flags body (Ok text) token value owns =
    let same : plain_token (Regex (borrowed_atom (encode_utf8_all body)) text) ≡ token = cc in
    (text, refl, ap owns_nothing same ∙ owns)

pub on_map : {T E P Q : Type 0} (r : Result T E) → (P → Q) → OnOk r P → OnOk r Q
on_map (Ok value) f p = f p
on_map (Err error) f p = tt

-- one that nothing closes

line_taken : (text : Text) → take (length (line text)) text ≡ line text
line_taken text = front-taken (line text) (behind_line text) text (front_after in_line text)

pub open_place : (old one two : Cursor) → next_is 47 (rest old) ≡ true → one ≡ passed 1 old → two ≡ at_line_end one → place two ≡ place old + byte_len (47 ∷ line (rest one))
open_place old one two opens first moved =
    let there = place-passed one two _ moved ∙ ap (λ t. place one + byte_len t) (line_taken (rest one)) in
    omega (arith, slash_one old one opens first, there, byte_len-append (47 ∷ []) (line (rest one)))

pub open_moved : (old one two : Cursor) → one ≡ passed 1 old → false ≡ next_is 47 (remainder body_cutter tt (rest one)) → two ≡ at_line_end one
    → two ≡ passed (length (regular_expression (rest old)).spelling) old
open_moved old one two first open_end moved =
    let size = ap (λ (s : Scanned TokenView). length s.spelling) (regex_open old one first open_end) in
    passed-both old one two 1 _ _ first moved (omega (arith, size))

pub open_found : (n : ℕ) (text : Text) (error : ErrorView) (extent : Span) → error ≡ record { kind = plain_kind UnterminatedRegExp; span = extent } → extent ≡ span_of n (n + byte_len (47 ∷ line text))
    → seen (Err error) [] extent ≡ found_at token_behind n (open_expression text)
open_found n text error extent e x =
    let low : n ≡ n + 0 = omega arith in
    let place : span_of n (n + byte_len (47 ∷ line text)) ≡ span_of (n + 0) (n + byte_len (47 ∷ line text)) = ap (λ (a : ℕ). span_of a (n + byte_len (47 ∷ line text))) low in
    let kind : Span → ErrorView = λ (s : Span). record { kind = plain_kind UnterminatedRegExp; span = s } in
    rw (e, x) (ap (λ (s : Span). seen (Err (kind s)) [] (span_of n (n + byte_len (47 ∷ line text)))) place)

-- no flags

pub no_flags_found : (n : ℕ) (faults : List Fault) (extent : Span) → faults ≡ [] → extent ≡ span_of n n
    → (let seen : FoundView AtomView = record { value = Ok (borrowed_atom []); faults = faults; extent = extent; line_break = false } in seen) ≡ found_at placeless n no_flags
no_flags_found n faults extent none place =
    let there : extent ≡ span_of n (n + byte_len []) = place ∙ ap (λ (high : ℕ). span_of n high) (omega arith) in
    rw (none, there) refl
