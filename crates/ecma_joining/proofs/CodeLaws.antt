-- A token of code stands by itself in front of a separator.
use Rattle.std.proofs.Common.{◌≡◌, ℕ, Bool, true, false, not, ◌&&◌, ◌||◌, ◌==◌, [], ◌∷◌, ◌++◌, Option, Some, None, Result, Ok, Err, refl, ap, ◌∙◌, sym, eqb-true}
use Rattle.std.specs.List.{list_all}
use Rattle.std.proofs.lemmas.Bool.{and_parts}
use Rattle.ecma_place.specs.Text.{Text}
use Rattle.ecma_place.specs.Character.{is_ident_start}
use Rattle.ecma_syntax.specs.declared.word.Word.{Word}
use Rattle.ecma_syntax.specs.declared.settings.NumberRule.{NumberRule}
use Rattle.ecma_token.specs.View.{ErrorView}
use Rattle.ecma_token.specs.declared.token.Radix.TheVariants.{Decimal}
use Rattle.ecma_scan.specs.Bars.{opens_bars}
use Rattle.ecma_scan.specs.Fronts.{begins_with, next_passes}
use Rattle.ecma_scan.specs.Gaps.{element}
use Rattle.ecma_joining.specs.Code.{CodeBeginsNoGap, CodeIsLocal, CodeIsToken, CodeMode, CodeOpensNoShebang, code_at, code_mode, lookahead_from, read_code}
use Rattle.ecma_state.specs.Mode.{is_template}
use Rattle.ecma_state.specs.TokenAt as tokens
use Rattle.ecma_state.specs.TokenAt.{as_token, punctuator_or_stray, stray}
use Rattle.ecma_scan.specs.Locality.{is_clean, separates}
use Rattle.ecma_scan.specs.Numbers.{digit, exponent, in_run, number, number_parts, number_text, opens_number, refusal, behind_number, exponent_text, after_fraction, run_of}
use Rattle.ecma_scan.specs.Punctuators.{Punctuator, punctuator_in, punctuators}
use Rattle.ecma_scan.specs.Shebangs.{opens_shebang}
use Rattle.ecma_scan.specs.Strings.{opens_string, string_literal}
use Rattle.ecma_scan.specs.Words.{opens_word, word}
use Rattle.ecma_scan.proofs.Fronts.{separated}
use Rattle.ecma_scan.proofs.NumberLocal.{number_begins_no_gap, number_local, spelling_is}
use Rattle.ecma_scan.proofs.PunctuatorLaws.{found_local, found_passes, punctuator_begins_no_gap}
use Rattle.ecma_grammar_laws.proofs.SeparationLaws.{string_begins_no_gap, word_begins_no_gap}
use Rattle.ecma_scan.proofs.StringLaws.{string_is_local}
use Rattle.ecma_scan.proofs.WordLaws.{word_is_local}

-- a number that begins with a point has two characters or more
point_two : (d : ℕ) (ds : Text) → digit Decimal d ≡ true → (more : Text) × (number_text (number_parts (46 ∷ (d ∷ ds))) ≡ 46 ∷ (d ∷ more))
point_two d ds e =
    let here : in_run Decimal d ≡ true = rw e refl in
    (run_of Decimal ds ++ exponent_text (exponent (after_fraction (46 ∷ (d ∷ ds)))), rw here refl)

no_one : (ts1085 : Bool) (rule : NumberRule) (c : ℕ) (behind : Text) → digit Decimal c ≡ false → opens_number (c ∷ behind) ≡ true → (number ts1085 rule (c ∷ behind)).spelling ≡ c ∷ [] → ⊥
no_one ts1085 rule c [] n opens spells = go (c == 46) (rw n at opens)
  where
    go : (b : Bool) → (b && false) ≡ true → ⊥
    go true h = cc
    go false h = cc
no_one ts1085 rule c (d ∷ ds) n opens spells =
    let both = and_parts (c == 46) (digit Decimal d) (rw n at opens) in
    let point : c ≡ 46 = eqb-true c 46 both.0 in
    let written : number_text (number_parts (46 ∷ (d ∷ ds))) ≡ 46 ∷ [] =
    ap (λ x. number_text (number_parts (x ∷ (d ∷ ds)))) (sym point) ∙ sym (spelling_is ts1085 rule (number_parts (c ∷ (d ∷ ds))) (refusal rule (number_parts (c ∷ (d ∷ ds))) (behind_number (number_parts (c ∷ (d ∷ ds))) (c ∷ (d ∷ ds))))) ∙ spells ∙ ap (λ x. x ∷ []) point in
    let two = point_two d ds both.1 in
    let no : 46 ∷ (d ∷ two.0) ≡ 46 ∷ [] = sym two.1 ∙ written in
    cc

-- what opens a number opens one in front of a separator

number_again : (ts1085 : Bool) (rule : NumberRule) (c : ℕ) (b behind r : Text) → opens_number (c ∷ (b ++ behind)) ≡ true → (number ts1085 rule (c ∷ (b ++ behind))).spelling ≡ c ∷ b → opens_number (c ∷ (b ++ r)) ≡ true
number_again ts1085 rule c b behind r opens spells = by_digit (digit Decimal c) refl
  where
    by_rest : (b : Text) → opens_number (c ∷ (b ++ behind)) ≡ true → (number ts1085 rule (c ∷ (b ++ behind))).spelling ≡ c ∷ b → digit Decimal c ≡ false → opens_number (c ∷ (b ++ r)) ≡ true
    by_rest [] o s n = absurd (no_one ts1085 rule c behind n o s)
    by_rest (d ∷ ds) o s n = o

    by_digit : (x : Bool) → digit Decimal c ≡ x → opens_number (c ∷ (b ++ r)) ≡ true
    by_digit true e = rw e refl
    by_digit false e = by_rest b opens spells e

no_digit_space : digit Decimal 32 ≡ false
no_digit_space = refl

no_digit_line_feed : digit Decimal 10 ≡ false
no_digit_line_feed = refl

-- and what opens none opens none

no_number_again : (c : ℕ) (b behind r : Text) → opens_number (c ∷ (b ++ behind)) ≡ false → separates r ≡ true → opens_number (c ∷ (b ++ r)) ≡ false
no_number_again c (d ∷ ds) behind r h free = h
no_number_again c [] behind r h free =
    let digits = separated (digit Decimal) r no_digit_space no_digit_line_feed free in
    by_digit (digit Decimal c) refl h digits
  where
    and_none : (x y : Bool) → y ≡ false → (x && y) ≡ false
    and_none true y e = e
    and_none false y e = refl

    by_digit : (x : Bool) → digit Decimal c ≡ x → (x || (c == 46 && next_passes (digit Decimal) behind)) ≡ false → next_passes (digit Decimal) r ≡ false → opens_number (c ∷ r) ≡ false
    by_digit true e h n = cc
    by_digit false e h n = rw e (and_none (c == 46) (next_passes (digit Decimal) r) n)

-- no spelling of a punctuator begins bars or a shebang, at a separator

abbrev OpensNone : (Text → Bool) → Text → Type 0
OpensNone opens r = list_all (λ p. not (opens (p.spelling ++ r))) punctuators ≡ true

at_separator : (opens : Text → Bool) → OpensNone opens [] → ((cs : Text) → OpensNone opens (32 ∷ cs)) → ((cs : Text) → OpensNone opens (10 ∷ cs)) → (r : Text) → separates r ≡ true → OpensNone opens r
at_separator opens end space feed [] free = end
at_separator opens end space feed (c ∷ cs) free = go (c == 32) (c == 10) refl refl free
  where
    go : (x y : Bool) → (c == 32) ≡ x → (c == 10) ≡ y → (x || y) ≡ true → OpensNone opens (c ∷ cs)
    go true y e f h = rw (eqb-true c 32 e) (space cs)
    go false true e f h = rw (eqb-true c 10 f) (feed cs)
    go false false e f h = cc

bars_none : (r : Text) → separates r ≡ true → OpensNone opens_bars r
bars_none r free = at_separator opens_bars refl (λ cs. refl) (λ cs. refl) r free

shebang_none : (r : Text) → separates r ≡ true → OpensNone opens_shebang r
shebang_none r free = at_separator opens_shebang refl (λ cs. refl) (λ cs. refl) r free

from_not : (b : Bool) → not b ≡ true → b ≡ false
from_not true h = cc
from_not false h = refl

punctuator_opens_none : (opens : Text → Bool) (type_mode : Bool) (text r : Text) (p : Punctuator) → OpensNone opens r → punctuator_in type_mode text ≡ Some p → opens (p.spelling ++ r) ≡ false
punctuator_opens_none opens type_mode text r p none e = from_not (opens (p.spelling ++ r)) (found_passes (λ spelling. not (opens (spelling ++ r))) type_mode text p none e)

-- a punctuator that is read cleanly is found
other_found : (found : Option Punctuator) (text : Text) → is_clean (punctuator_or_stray found text) ≡ true → (p : Punctuator) × (found ≡ Some p)
other_found (Some p) text clean = (p, refl)
other_found None [] clean = cc
other_found None (c ∷ cs) clean = cc

-- a word, as a token, is read cleanly where the word is
word_clean : (mode : CodeMode) (text : Text) → is_clean (as_token (word mode.context text)) ≡ true → is_clean (word mode.context text) ≡ true
word_clean mode text h = go (word mode.context text).value refl h
  where
    go : (value : Result Word ErrorView) → (word mode.context text).value ≡ value → is_clean (as_token (word mode.context text)) ≡ true → is_clean (word mode.context text) ≡ true
    go (Ok w) e h = rw e (rw e at h)
    go (Err x) e h = let no = rw e at h in cc

-- What a clean token of code is: one of four, each with what opens it

data Code (mode : CodeMode) (flag : Bool) (c : ℕ) (b behind r : Text) : Type 0 where
  ANumber : opens_number (c ∷ (b ++ behind)) ≡ true → is_clean (number mode.ts1085 mode.numbers (c ∷ (b ++ behind))) ≡ true → (number mode.ts1085 mode.numbers (c ∷ (b ++ behind))).spelling ≡ c ∷ b
      → code_at mode flag (c ∷ (b ++ behind)) ≡ number mode.ts1085 mode.numbers (c ∷ (b ++ behind)) → Code mode flag c b behind r
  AString : opens_number (c ∷ (b ++ behind)) ≡ false → opens_string (c ∷ (b ++ behind)) ≡ true → is_clean (string_literal (c ∷ (b ++ behind))) ≡ true → (string_literal (c ∷ (b ++ behind))).spelling ≡ c ∷ b
      → code_at mode flag (c ∷ (b ++ behind)) ≡ string_literal (c ∷ (b ++ behind)) → Code mode flag c b behind r
  AWord : opens_number (c ∷ (b ++ behind)) ≡ false → opens_string (c ∷ (b ++ behind)) ≡ false → opens_word (c ∷ (b ++ behind)) ≡ true → is_clean (as_token (word mode.context (c ∷ (b ++ behind)))) ≡ true
      → (word mode.context (c ∷ (b ++ behind))).spelling ≡ c ∷ b → code_at mode flag (c ∷ (b ++ behind)) ≡ as_token (word mode.context (c ∷ (b ++ behind))) → Code mode flag c b behind r
  APunctuator : opens_number (c ∷ (b ++ behind)) ≡ false → opens_string (c ∷ (b ++ behind)) ≡ false → opens_word (c ∷ (b ++ behind)) ≡ false → (p : Punctuator) → punctuator_in mode.type_mode (c ∷ (b ++ behind)) ≡ Some p
      → p.spelling ≡ c ∷ b → code_at mode flag (c ∷ (b ++ behind)) ≡ punctuator_or_stray (Some p) (c ∷ (b ++ behind)) → Code mode flag c b behind r

code : (mode : CodeMode) (flag : Bool) (c : ℕ) (b behind r : Text) → is_clean (code_at mode flag (c ∷ (b ++ behind))) ≡ true → (code_at mode flag (c ∷ (b ++ behind))).spelling ≡ c ∷ b → Code mode flag c b behind r
code mode flag c b behind r clean spells =
    go (opens_number text) (opens_string text) (opens_word text) (flag && opens_bars text) refl refl refl clean spells refl
  where
    text : Text
    text = c ∷ (b ++ behind)

    other : (found : Option Punctuator) → punctuator_in mode.type_mode text ≡ found → is_clean (punctuator_or_stray found text) ≡ true → (punctuator_or_stray found text).spelling ≡ c ∷ b
        → code_at mode flag text ≡ punctuator_or_stray found text → opens_number text ≡ false → opens_string text ≡ false → opens_word text ≡ false → Code mode flag c b behind r
    other (Some p) e k s is n t w = APunctuator n t w p e s is
    other None e k s is n t w = cc

    go : (n s w x : Bool) → opens_number text ≡ n → opens_string text ≡ s → opens_word text ≡ w → is_clean (read_code (lookahead_from n s w x) mode text) ≡ true
        → (read_code (lookahead_from n s w x) mode text).spelling ≡ c ∷ b → code_at mode flag text ≡ read_code (lookahead_from n s w x) mode text → Code mode flag c b behind r
    go true s w x e f g k spells is = ANumber e k spells is
    go false true w x e f g k spells is = AString e f k spells is
    go false false true x e f g k spells is = AWord e f g k spells is
    go false false false true e f g k spells is = cc
    go false false false false e f g k spells is = other (punctuator_in mode.type_mode text) refl k spells is e f g

and_false : (x y : Bool) → y ≡ false → (x && y) ≡ false
and_false true y e = e
and_false false y e = refl

pub code_is_local : CodeIsLocal
code_is_local mode flag c b behind r clean spells free = go (code mode flag c b behind r clean spells)
  where
    to : Text
    to = c ∷ (b ++ r)

    go : Code mode flag c b behind r → code_at mode flag to ≡ code_at mode flag (c ∷ (b ++ behind))
    go (ANumber opens k s is) =
        let again = number_again mode.ts1085 mode.numbers c b behind r opens s in
        ap (λ x. read_code (lookahead_from x (opens_string to) (opens_word to) (flag && opens_bars to)) mode to) again
        ∙ number_local mode.ts1085 mode.numbers (c ∷ b) behind r opens k s free
        ∙ sym is
    go (AString n opens k s is) =
        let none = no_number_again c b behind r n free in
        ap (λ x. read_code (lookahead_from x (opens_string to) (opens_word to) (flag && opens_bars to)) mode to) none
        ∙ ap (λ x. read_code (lookahead_from false x (opens_word to) (flag && opens_bars to)) mode to) opens
        ∙ string_is_local (c ∷ b) behind r opens k s refl
        ∙ sym is
    go (AWord n t opens k s is) =
        let none = no_number_again c b behind r n free in
        ap (λ x. read_code (lookahead_from x (opens_string to) (opens_word to) (flag && opens_bars to)) mode to) none
        ∙ ap (λ x. read_code (lookahead_from false x (opens_word to) (flag && opens_bars to)) mode to) t
        ∙ ap (λ x. read_code (lookahead_from false false x (flag && opens_bars to)) mode to) opens
        ∙ ap as_token (word_is_local mode.context (c ∷ b) behind r opens (word_clean mode (c ∷ (b ++ behind)) k) s free)
        ∙ sym is
    go (APunctuator n t w p e s is) =
        let none = no_number_again c b behind r n free in
        let bars : opens_bars to ≡ false = ap (λ x. opens_bars (x ++ r)) (sym s) ∙ punctuator_opens_none opens_bars mode.type_mode (c ∷ (b ++ behind)) r p (bars_none r free) e in
        ap (λ x. read_code (lookahead_from x (opens_string to) (opens_word to) (flag && opens_bars to)) mode to) none
        ∙ ap (λ x. read_code (lookahead_from false x (opens_word to) (flag && opens_bars to)) mode to) t
        ∙ ap (λ x. read_code (lookahead_from false false x (flag && opens_bars to)) mode to) w
        ∙ ap (λ x. read_code (lookahead_from false false false x) mode to) (and_false flag (opens_bars to) bars)
        ∙ ap (λ x. punctuator_or_stray x to) (found_local mode.type_mode (c ∷ b) behind r (Some p) e s free)
        ∙ sym is

pub code_begins_no_gap : CodeBeginsNoGap
code_begins_no_gap mode flag c b behind r clean spells free gap_mode stands = go (code mode flag c b behind r clean spells)
  where
    go : Code mode flag c b behind r → element gap_mode stands (c ∷ (b ++ r)) ≡ None
    go (ANumber opens k s is) = number_begins_no_gap gap_mode stands (c ∷ (b ++ r)) (number_again mode.ts1085 mode.numbers c b behind r opens s)
    go (AString n opens k s is) = string_begins_no_gap gap_mode stands (c ∷ (b ++ r)) opens
    go (AWord n t opens k s is) = word_begins_no_gap gap_mode stands (c ∷ (b ++ r)) opens
    go (APunctuator n t w p e s is) = ap (λ x. element gap_mode stands (x ++ r)) (sym s) ∙ punctuator_begins_no_gap mode.type_mode gap_mode stands (c ∷ (b ++ behind)) r p e free

-- a hash begins no number, no string and no word

hash_no_start : is_ident_start 35 ≡ false
unfolding is_ident_start
hash_no_start = refl

no_hash : (test : ℕ → Bool) (c : ℕ) (cs : Text) → test 35 ≡ false → test c ≡ true → opens_shebang (c ∷ cs) ≡ false
no_hash test c cs none h = go (c == 35) refl
  where
    go : (x : Bool) → (c == 35) ≡ x → (x && begins_with (33 ∷ []) cs) ≡ false
    go true e = let no : test 35 ≡ true = ap test (sym (eqb-true c 35 e)) ∙ h in cc
    go false e = refl

number_no_hash : (c : ℕ) (cs : Text) → opens_number (c ∷ cs) ≡ true → opens_shebang (c ∷ cs) ≡ false
number_no_hash c cs h = no_hash (λ x. opens_number (x ∷ cs)) c cs refl h

word_no_hash : (c : ℕ) (cs : Text) → opens_word (c ∷ cs) ≡ true → opens_shebang (c ∷ cs) ≡ false
word_no_hash c cs h = no_hash (λ x. is_ident_start x || x == 92) c cs (rw hash_no_start refl) h

pub code_opens_no_shebang : CodeOpensNoShebang
code_opens_no_shebang mode flag c b behind r clean spells free = go (code mode flag c b behind r clean spells)
  where
    go : Code mode flag c b behind r → opens_shebang (c ∷ (b ++ r)) ≡ false
    go (ANumber opens k s is) = number_no_hash c (b ++ r) (number_again mode.ts1085 mode.numbers c b behind r opens s)
    go (AString n opens k s is) = no_hash (λ x. x == 34 || x == 39) c (b ++ r) refl opens
    go (AWord n t opens k s is) = word_no_hash c (b ++ r) opens
    go (APunctuator n t w p e s is) = ap (λ x. opens_shebang (x ++ r)) (sym s) ∙ punctuator_opens_none opens_shebang mode.type_mode (c ∷ (b ++ behind)) r p (shebang_none r free) e

-- Code and the token at a place

pub code_is_token : CodeIsToken
code_is_token mode flag text outside =
    go (is_template mode.top) (opens_number text) (opens_string text) (opens_word text) (flag && opens_bars text) outside
  where
    go : (t n s w b : Bool) → t ≡ false
        → tokens.read_opened (tokens.lookahead_from t n s w b) mode text ≡ read_code (lookahead_from n s w b) (code_mode mode) text
    go true n s w b outside = cc
    go false true s w b outside = refl
    go false false true w b outside = refl
    go false false false true b outside = refl
    go false false false false true outside = refl
    go false false false false false outside = refl
