-- What is found of a number, refused or not.
use Rattle.std.proofs.Common.{◌≡◌, ℕ, ◌+◌, Bool, true, false, [], ◌++◌, List, map, Option, Some, None, option_map, Result, Ok, Err, OnOk, length, take, refl, ap, ◌∙◌, sym}
use Rattle.std.specs.List.{list_any}
use Rattle.std.proofs.lemmas.List.{map-append, take_at}
use Rattle.ecma_place.specs.Text.{Text, byte_len}
use Rattle.ecma_place.specs.Atom.{AtomView}
use Rattle.ecma_place.specs.declared.place.Span.{Span}
use Rattle.ecma_token.specs.View.{ErrorView, TokenView, plain_token}
use Rattle.ecma_syntax.specs.declared.settings.NumberRule.{NumberRule}
use Rattle.ecma_token.specs.declared.token.Radix.{Radix}
use Rattle.ecma_token.specs.declared.token.Token.{Num, BigInt}
use Rattle.ecma_grammar.specs.Found.{Fault, FoundView, error_behind, fault_behind, token_behind, found_at, span_of}
use Rattle.ecma_grammar.specs.Locality.{is_accepted}
use Rattle.ecma_grammar.specs.Numbers.{Number, is_separator, part_faults, octal_faults, is_big_number, number_text, number_radix, digits_atom, written_digits, whole_value, raw_atom, token_of, number_token, found_number}

pub big-token : (number : Number) (raw digits : AtomView) (radix : Radix) → is_big_number number ≡ true → raw ≡ raw_atom number → radix ≡ number_radix number
    → digits ≡ digits_atom (written_digits number) → plain_token (BigInt raw radix digits) ≡ number_token number
big-token number raw digits radix big a b d = rw (a, b, d, big) refl

pub small-token : (number : Number) (raw digits : AtomView) (radix : Radix) (whole : Option ℕ) → is_big_number number ≡ false → raw ≡ raw_atom number
    → radix ≡ number_radix number → digits ≡ digits_atom (written_digits number) → whole ≡ whole_value number
    → plain_token (Num raw radix digits whole) ≡ number_token number
small-token number raw digits radix whole small a b d e = rw (a, b, d, e, small) refl

-- what is found with this value, these faults and this extent
abbrev pub seen : Result TokenView ErrorView → List Fault → Span → FoundView TokenView
seen value faults extent = record { value = value; faults = faults; extent = extent; line_break = false }

pub refused-found : (start : ℕ) (ts1085 : Bool) (rule : NumberRule) (number : Number) (refusal : Option ErrorView) (error : ErrorView) (faults : List Fault) (extent : Span)
    → Some error ≡ option_map (error_behind start) refusal → faults ≡ map (fault_behind start) (part_faults rule number)
    → extent ≡ span_of start (start + byte_len (number_text number)) → seen (Err error) faults extent ≡ found_at token_behind start (found_number ts1085 rule number refusal)
refused-found start ts1085 rule number None error faults extent e f s = cc
refused-found start ts1085 rule number (Some why) error faults extent e f s =
    let same : error ≡ error_behind start why = cc in
    rw (same, f, s) refl

token_stays : (start : ℕ) (number : Number) (big : Bool) → token_behind start (token_of big number) ≡ token_of big number
token_stays start number true = refl
token_stays start number false = refl

pub accepted-found : (start : ℕ) (ts1085 : Bool) (rule : NumberRule) (number : Number) (refusal : Option ErrorView) (token : TokenView) (mid faults : List Fault) (extent : Span)
    → refusal ≡ None → token ≡ number_token number → mid ≡ map (fault_behind start) (part_faults rule number)
    → faults ≡ mid ++ map (fault_behind start) (octal_faults ts1085 number) → extent ≡ span_of start (start + byte_len (number_text number))
    → seen (Ok token) faults extent ≡ found_at token_behind start (found_number ts1085 rule number refusal)
accepted-found start ts1085 rule number refusal token mid faults extent none t m f s =
    let all : faults ≡ map (fault_behind start) (part_faults rule number ++ octal_faults ts1085 number) =
    f ∙ ap (λ l. l ++ map (fault_behind start) (octal_faults ts1085 number)) m ∙ sym (map-append (fault_behind start) (part_faults rule number) (octal_faults ts1085 number)) in
    let stays : token ≡ token_behind start (number_token number) = t ∙ sym (token_stays start number (is_big_number number)) in
    rw (none, s, all) (ap (λ (u : TokenView). seen (Ok u) (map (fault_behind start) (part_faults rule number ++ octal_faults ts1085 number)) (span_of start (start + byte_len (number_text number)))) stays)

-- a number that does not allocate is not refused
pub free-number : (ts1085 : Bool) (rule : NumberRule) (number : Number) (refusal : Option ErrorView) → list_any is_separator (found_number ts1085 rule number refusal).spelling ≡ false
    → is_accepted (found_number ts1085 rule number refusal).value ≡ true → (found_number ts1085 rule number refusal).faults ≡ []
    → (list_any is_separator (number_text number) ≡ false) × (refusal ≡ None) × ((found_number ts1085 rule number None).faults ≡ [])
free-number ts1085 rule number None plain accepted clean = (plain, refl, clean)
free-number ts1085 rule number (Some error) plain accepted clean = cc

pub front-taken : (part behind text : Text) → part ++ behind ≡ text → take (length part) text ≡ part
front-taken part behind text e = ap (take (length part)) (sym e) ∙ take_at part behind (length part) refl

-- what holds at any answer holds at each answer with memory
pub on_any : {T E P : Type 0} (r : Result T E) → P → OnOk r P
on_any (Ok value) p = p
on_any (Err error) p = tt
