-- What tokens of code are, by what their first characters open.
use Rattle.std.proofs.Common.{◌≡◌, ℕ, Bool, true, false, not, cond, ◌||◌, ◌==◌, List, [], ◌∷◌, ◌++◌, Option, Some, None, Result, Ok, Err, refl, ap, ◌∙◌, sym, eqb-true}
use Rattle.std.specs.Prelude.{codes}
use Rattle.std.specs.List.{list_all}
use Rattle.ecma_place.specs.Text.{Text}
use Rattle.ecma_syntax.specs.declared.operator.BinOpToken.TheVariants as bin
use Rattle.ecma_syntax.specs.declared.word.Word.{Word}
use Rattle.ecma_syntax.specs.declared.settings.NumberRule.{NumberRule}
use Rattle.ecma_token.specs.Kinds.{kind_of}
use Rattle.ecma_token.specs.View.{ErrorView, TokenView, plain_token}
use Rattle.ecma_token.specs.declared.token.Token.{BinOp}
use Rattle.ecma_joining.specs.Code.{Bars, CodeMode, CodeLookahead, Number, Other, String, Word', code_lookahead, read_code}
use Rattle.ecma_state.specs.TokenAt.{punctuator_or_stray, stray, word_value}
use Rattle.ecma_joining.specs.CodeKinds.{CloserIsWritten, CodeHoldsNoBreak, CodeIsNeither, is_closer, is_closer_text, is_text_or_line}
use Rattle.ecma_scan.specs.Numbers as numbers
use Rattle.ecma_scan.specs.Numbers.{opens_fraction}
use Rattle.ecma_scan.specs.Punctuators.{Punctuator, alone_or, longest, punctuator_in, punctuators, spells}
use Rattle.ecma_scan.specs.Pieces.{remainder, spelled}
use Rattle.ecma_scan.specs.Strings.{Piece}
use Rattle.ecma_scan.specs.Strings as strings
use Rattle.ecma_scan.specs.Words as words
use Rattle.ecma_scan.proofs.PunctuatorLaws.{member_passes, punctuator_is_member}

-- a test that all rows of the table pass is passed by what is found
row_passes : (test : Punctuator → Bool) (type_mode : Bool) (text : Text) (found : Punctuator) → list_all test punctuators ≡ true → test (spells (codes "<") (BinOp bin.Lt)) ≡ true
    → test (spells (codes ">") (BinOp bin.Gt)) ≡ true → punctuator_in type_mode text ≡ Some found → test found ≡ true
row_passes test type_mode [] found all less greater e = cc
row_passes test type_mode (c ∷ cs) found all less greater e = by_mode type_mode e
  where
    unless : (x : Bool) → longest x (c ∷ cs) ≡ Some found → test found ≡ true
    unless true e = cc
    unless false e = member_passes test punctuators found all (punctuator_is_member (c ∷ cs) found e).0

    angled : (x y : Bool) → (c == 60) ≡ x → (c == 62) ≡ y → alone_or (cond x (Some (BinOp bin.Lt)) (cond y (Some (BinOp bin.Gt)) None)) c cs ≡ Some found → test found ≡ true
    angled true y f g e = let same : spells (c ∷ []) (BinOp bin.Lt) ≡ found = cc in ap test (sym same) ∙ ap (λ x. test (spells (x ∷ []) (BinOp bin.Lt))) (eqb-true c 60 f) ∙ less
    angled false true f g e = let same : spells (c ∷ []) (BinOp bin.Gt) ≡ found = cc in ap test (sym same) ∙ ap (λ x. test (spells (x ∷ []) (BinOp bin.Gt))) (eqb-true c 62 g) ∙ greater
    angled false false f g e = unless (opens_fraction (c ∷ cs)) e

    by_mode : (x : Bool) → punctuator_in x (c ∷ cs) ≡ Some found → test found ≡ true
    by_mode true e = angled (c == 60) (c == 62) refl refl e
    by_mode false e = unless (opens_fraction (c ∷ cs)) e

abbrev is_neither : Punctuator → Bool
is_neither p = not (is_text_or_line (kind_of (plain_token p.token)))

abbrev is_written : Punctuator → Bool
is_written p = not (is_closer (kind_of (plain_token p.token))) || is_closer_text p.spelling

all_neither : list_all is_neither punctuators ≡ true
all_neither = refl

all_written : list_all is_written punctuators ≡ true
all_written = refl

from_not : (b : Bool) → not b ≡ true → b ≡ false
from_not true h = cc
from_not false h = refl

from_or : (a b : Bool) → (not a || b) ≡ true → a ≡ true → b ≡ true
from_or true b h e = h
from_or false b h e = cc

-- what each reader gives

record Tells (value : Result TokenView ErrorView) (spelling : Text) (t : TokenView) : Type 0 where
  neither : is_text_or_line (kind_of t) ≡ false
  written : is_closer (kind_of t) ≡ true → is_closer_text spelling ≡ true

number_tells : (ts1085 : Bool) (rule : NumberRule) (n : numbers.Number) (o : Option ErrorView) (t : TokenView) → (numbers.found_number ts1085 rule n o).value ≡ Ok t → Tells (Ok t) (numbers.found_number ts1085 rule n o).spelling t
number_tells ts1085 rule n (Some e) t h = cc
number_tells ts1085 rule n None t h = go (numbers.is_big_number n) (let same : numbers.number_token n ≡ t = cc in same)
  where
    go : (b : Bool) → numbers.token_of b n ≡ t → Tells (Ok t) (numbers.number_text n) t
    go true e = record { neither = ap (λ x. is_text_or_line (kind_of x)) (sym e); written = λ k. let no = ap (λ x. is_closer (kind_of x)) e ∙ k in cc }
    go false e = record { neither = ap (λ x. is_text_or_line (kind_of x)) (sym e); written = λ k. let no = ap (λ x. is_closer (kind_of x)) e ∙ k in cc }

string_same : (ps : List Piece) (raw : Text) (t : TokenView) (spelling : Text) → strings.string_token ps raw ≡ t → Tells (Ok t) spelling t
string_same ps raw t spelling e = record { neither = ap (λ x. is_text_or_line (kind_of x)) (sym e); written = λ k. let no = ap (λ x. is_closer (kind_of x)) e ∙ k in cc }

string_found : (quote : ℕ) (opened : Text) (ps : List Piece) (end : strings.Ending) (t : TokenView) → (strings.found_string quote opened ps end).value ≡ Ok t
    → Tells (Ok t) (strings.found_string quote opened ps end).spelling t
string_found quote opened ps strings.Closed t h =
    let same : strings.string_token ps (opened ++ quote ∷ []) ≡ t = cc in string_same ps (opened ++ quote ∷ []) t (opened ++ quote ∷ []) same
string_found quote opened ps strings.Unclosed t h =
    let same : strings.string_token ps opened ≡ t = cc in string_same ps opened t opened same
string_found quote opened ps (strings.BadEscape spelling error) t h = cc

string_tells : (text : Text) (t : TokenView) → (strings.string_literal text).value ≡ Ok t → Tells (Ok t) (strings.string_literal text).spelling t
string_tells [] t h = string_found 0 [] [] strings.Unclosed t h
string_tells (quote ∷ text) t h =
    string_found quote (quote ∷ spelled (strings.string_cutter quote) (strings.string_pieces quote text)) (strings.string_pieces quote text) (strings.ending quote (remainder (strings.string_cutter quote) tt text)) t h

word_tells : (value : Result Word ErrorView) (spelling : Text) (t : TokenView) → word_value value ≡ Ok t → Tells (Ok t) spelling t
word_tells (Err e) spelling t h = cc
word_tells (Ok w) spelling t h =
    let same : word_value (Ok w) ≡ Ok t = h in
    record { neither = go same; written = λ k. absurd (never same k) }
  where
    go : word_value (Ok w) ≡ Ok t → is_text_or_line (kind_of t) ≡ false
    go e = ap (λ (r : Result TokenView ErrorView). of_ok r) (sym e)
      where
        of_ok : Result TokenView ErrorView → Bool
        of_ok (Ok x) = is_text_or_line (kind_of x)
        of_ok (Err x) = false

    never : word_value (Ok w) ≡ Ok t → is_closer (kind_of t) ≡ true → ⊥
    never e k = let no = ap (λ (r : Result TokenView ErrorView). of_ok r) e ∙ k in cc
      where
        of_ok : Result TokenView ErrorView → Bool
        of_ok (Ok x) = is_closer (kind_of x)
        of_ok (Err x) = false

stray_refused : (text : Text) (t : TokenView) → (stray text).value ≡ Ok t → ⊥
stray_refused [] t h = cc
stray_refused (c ∷ cs) t h = cc

other_tells : (type_mode : Bool) (text : Text) (found : Option Punctuator) (t : TokenView) → punctuator_in type_mode text ≡ found → (punctuator_or_stray found text).value ≡ Ok t
    → Tells (Ok t) (punctuator_or_stray found text).spelling t
other_tells type_mode text None t e h = absurd (stray_refused text t h)
other_tells type_mode text (Some p) t e h =
    let same : plain_token p.token ≡ t = cc in
    let neither = from_not _ (row_passes is_neither type_mode text p all_neither refl refl e) in
    record {
      neither = ap (λ x. is_text_or_line (kind_of x)) (sym same) ∙ neither;
      written = λ k. from_or _ _ (row_passes is_written type_mode text p all_written refl refl e) (ap (λ x. is_closer (kind_of x)) same ∙ k);
    }

tells : (opened : CodeLookahead) (mode : CodeMode) (text : Text) (t : TokenView) → (read_code opened mode text).value ≡ Ok t → Tells (Ok t) (read_code opened mode text).spelling t
tells Number mode text t h = number_tells mode.ts1085 mode.numbers (numbers.number_parts text) (numbers.refusal mode.numbers (numbers.number_parts text) (numbers.behind_number (numbers.number_parts text) text)) t h
tells String mode text t h = string_tells text t h
tells Word' mode text t h = word_tells (words.word mode.context text).value _ t h
tells Bars mode text t h = cc
tells Other mode text t h = other_tells mode.type_mode text (punctuator_in mode.type_mode text) t refl h

pub code_is_neither : CodeIsNeither
code_is_neither mode flag text t h = (tells (code_lookahead flag text) mode text t h).neither

pub closer_is_written : CloserIsWritten
closer_is_written mode flag text t h k = (tells (code_lookahead flag text) mode text t h).written k

-- line terminators

number_break : (ts1085 : Bool) (rule : NumberRule) (n : numbers.Number) (o : Option ErrorView) → (numbers.found_number ts1085 rule n o).line_break ≡ false
number_break ts1085 rule n (Some e) = refl
number_break ts1085 rule n None = refl

string_break : (quote : ℕ) (opened : Text) (ps : List Piece) (end : strings.Ending) → (strings.found_string quote opened ps end).line_break ≡ false
string_break quote opened ps strings.Closed = refl
string_break quote opened ps strings.Unclosed = refl
string_break quote opened ps (strings.BadEscape spelling error) = refl

literal_break : (text : Text) → (strings.string_literal text).line_break ≡ false
literal_break [] = refl
literal_break (quote ∷ text) =
    string_break quote (quote ∷ spelled (strings.string_cutter quote) (strings.string_pieces quote text)) (strings.string_pieces quote text) (strings.ending quote (remainder (strings.string_cutter quote) tt text))

stray_break : (text : Text) → (stray text).line_break ≡ false
stray_break [] = refl
stray_break (c ∷ cs) = refl

other_break : (found : Option Punctuator) (text : Text) → (punctuator_or_stray found text).line_break ≡ false
other_break (Some p) text = refl
other_break None text = stray_break text

breaks : (opened : CodeLookahead) (mode : CodeMode) (text : Text) → (read_code opened mode text).line_break ≡ false
breaks Number mode text = number_break mode.ts1085 mode.numbers (numbers.number_parts text) (numbers.refusal mode.numbers (numbers.number_parts text) (numbers.behind_number (numbers.number_parts text) text))
breaks String mode text = literal_break text
breaks Word' mode text = refl
breaks Bars mode text = refl
breaks Other mode text = other_break (punctuator_in mode.type_mode text) text

pub code_holds_no_break : CodeHoldsNoBreak
code_holds_no_break mode flag text = breaks (code_lookahead flag text) mode text
