-- Punctuators of one character, and the first character of a word: what they open.
use Rattle.std.proofs.Common.{◌≡◌, ℕ, ◌<◌, ◌≤◌, Bool, true, false, ◌&&◌, ◌||◌, ◌==◌, [], ◌∷◌, length, take, drop, Some, slice_get, refl, sym, ap, subst, ◌∙◌, eqb-true, true≢false, arith, nat_lt}
use Rattle.std.proofs.Math.Bool.{and-false}
use Rattle.std.proofs.lemmas.Bool.{and_parts}
use Rattle.std.proofs.lemmas.Bool.Decides.{nat_tests}
use Rattle.std.specs.Char.{is_ascii}
use Rattle.ecma_place.specs.Character.{is_ident_start}
use Rattle.ecma_place.specs.Text.{Text}
use Rattle.ecma_place.proofs.RunLemmas.{first-cons}
use Rattle.ecma_token.specs.declared.token.Radix.TheVariants.{Decimal}
use Rattle.ecma_token.specs.declared.token.Token.{Token}
use Rattle.ecma_reads.proofs.PunctuatorLemmas.{first_of-none}
use Rattle.ecma_reads.specs.Alone.{IsSpelledBy, StandsAlone}
use Rattle.ecma_reads.specs.Bars.{opens_bars}
use Rattle.ecma_reads.specs.Numbers.{digit, opens_fraction, opens_number}
use Rattle.ecma_reads.specs.Strings.{opens_string}
use Rattle.ecma_reads.specs.Words.{opens_word}
use Rattle.ecma_reads.specs.Punctuators.{begins_more, count_behind, first_of, is_lone, longest, punctuator_in, punctuators, spells}
use Rattle.ecma_reads.specs.PunctuatorKinds.{kind_token}
use Rattle.ecma_reads.specs.declared.punctuator_kind.PunctuatorKind.{PunctuatorKind}
use Rattle.ecma_state.specs.Mode.{is_template}
use Rattle.ecma_state.specs.TokenAt.{lookahead, lookahead_from}
use Rattle.ecma_state.specs.declared.mode.Mode.{Mode}
use Rattle.ecma_state.specs.declared.lookahead.Lookahead.TheVariants as opens
use Rattle.ecma_plain.specs.Plain.{begins_word}

-- nothing else is opened where no other reader's question is answered so
other-opens : (mode : Mode) (flag : Bool) (text : Text) → is_template mode.top ≡ false → opens_number text ≡ false → opens_string text ≡ false → opens_word text ≡ false
    → opens_bars text ≡ false → lookahead mode flag text ≡ opens.Other
other-opens mode flag text template number string word bars = rw (template, number, string, word, bars) (go flag)
  where
    go : (flag : Bool) → lookahead_from false false false false (flag && false) ≡ opens.Other
    go true = refl
    go false = refl

pub other-byte : (b k : ℕ) → (b ≡ k → ⊥) → (b == k) ≡ false
other-byte b k other = go (b == k) refl
  where
    go : (is : Bool) → (b == k) ≡ is → is ≡ false
    go true e = absurd (other (eqb-true b k e))
    go false e = refl

-- what begins a punctuator begins nothing else

starts : ℕ → Bool
starts c = is_lone c || begins_more c

starts-spelled : (c : ℕ) (kind : PunctuatorKind) → IsSpelledBy c kind → starts c ≡ true
unfolding starts
starts-spelled c kind spelled = go (is_lone c) (begins_more c) refl refl
  where
    go : (x y : Bool) → is_lone c ≡ x → begins_more c ≡ y → (x || y) ≡ true
    go true y e f = refl
    go false true e f = refl
    go false false e f =
        let none = ap (λ b. longest b (c ∷ [])) (and-false (c == 46)) ∙ first_of-none c [] e f in
        let some = spelled false in
        cc

no-word : (c : ℕ) → starts c ≡ true → is_ident_start c ≡ false
unfolding starts is_lone begins_more is_ident_start
no-word c h = grind (arith, nat_tests)

no-number : (c : ℕ) → starts c ≡ true → digit Decimal c ≡ false
unfolding starts is_lone begins_more
no-number c h = grind (arith, nat_tests)

no-quote : (c : ℕ) → starts c ≡ true → ((c == 34) ≡ false) × ((c == 39) ≡ false) × ((c == 92) ≡ false)
unfolding starts is_lone begins_more
no-quote c h = (grind (arith, nat_tests), grind (arith, nat_tests), grind (arith, nat_tests))

abbrev SpelledAs : ℕ → Text → Type 0
SpelledAs c text = (token : Token) × (punctuator_in false text ≡ Some (spells (c ∷ []) token))

no-fraction : (c : ℕ) (cs : Text) → SpelledAs c (c ∷ cs) → opens_fraction (c ∷ cs) ≡ false
no-fraction c cs is = go (opens_fraction (c ∷ cs)) is.1 refl
  where
    go : (x : Bool) → longest x (c ∷ cs) ≡ Some (spells (c ∷ []) is.0) → opens_fraction (c ∷ cs) ≡ x → x ≡ false
    go false e f = refl
    go true e f = cc

two-bars : (cs : Text) (token : Token) → first_of punctuators (124 ∷ 124 ∷ cs) ≡ Some (spells (124 ∷ []) token) → ⊥
two-bars [] token e = let more : 1 ≡ 0 = ap count_behind e in omega (arith, more)
two-bars (d ∷ ds) token e = go (d == 61) refl
  where
    go : (x : Bool) → (d == 61) ≡ x → ⊥
    go true f = let more : 2 ≡ 0 = ap count_behind (rw f at e) in omega (arith, more)
    go false f = let more : 1 ≡ 0 = ap count_behind (rw f at e) in omega (arith, more)

no-bars : (c : ℕ) (cs : Text) → SpelledAs c (c ∷ cs) → opens_bars (c ∷ cs) ≡ false
no-bars c [] is = and-false (c == 124)
no-bars c (d ∷ ds) is = go (opens_bars (c ∷ d ∷ ds)) refl
  where
    go : (x : Bool) → opens_bars (c ∷ d ∷ ds) ≡ x → x ≡ false
    go false e = refl
    go true e =
        let one = and_parts (c == 124) _ e in
        let two = and_parts (d == 124) _ one.1 in
        let first : c ≡ 124 = eqb-true c 124 one.0 in
        let second : d ≡ 124 = eqb-true d 124 two.0 in
        absurd (two-bars ds is.0 (rw (first, second) at is.1))

spelled-as : (c : ℕ) (kind : PunctuatorKind) (cs : Text) → IsSpelledBy c kind → StandsAlone (c ∷ cs) → SpelledAs c (c ∷ cs)
spelled-as c kind cs spelled alone = (kind_token kind, alone false ∙ spelled false)

opens-other : (c : ℕ) (kind : PunctuatorKind) (cs : Text) (mode : Mode) (flag : Bool) → IsSpelledBy c kind → StandsAlone (c ∷ cs) → is_template mode.top ≡ false
    → lookahead mode flag (c ∷ cs) ≡ opens.Other
opens-other c kind cs mode flag spelled alone template =
    let starts = starts-spelled c kind spelled in
    let is = spelled-as c kind cs spelled alone in
    let quote = no-quote c starts in
    other-opens mode flag (c ∷ cs) template (rw (no-number c starts, no-fraction c cs is) refl) (rw (quote.0, quote.1) refl) (rw (no-word c starts, quote.2) refl) (no-bars c cs is)

pub alone-opens : (text : Text) (c : ℕ) (kind : PunctuatorKind) (mode : Mode) (flag : Bool) → slice_get text 0 ≡ Some c → IsSpelledBy c kind → StandsAlone text → is_template mode.top ≡ false
    → lookahead mode flag text ≡ opens.Other
alone-opens text c kind mode flag first spelled alone template =
    let whole : text ≡ c ∷ drop 1 text = first-cons text c first in
    ap (lookahead mode flag) whole ∙ opens-other c kind (drop 1 text) mode flag spelled (subst StandsAlone whole alone) template

pub alone-found : (text : Text) (c : ℕ) (kind : PunctuatorKind) (type_mode : Bool) → slice_get text 0 ≡ Some c → IsSpelledBy c kind → StandsAlone text
    → punctuator_in type_mode text ≡ Some (spells (take 1 text) (kind_token kind))
alone-found text c kind type_mode first spelled alone =
    let one : take 1 text ≡ c ∷ [] = ap (take 1) (first-cons text c first) in
    rw one (alone type_mode ∙ ap (punctuator_in type_mode) one ∙ spelled type_mode)

-- Words

differs : (c k : ℕ) → is_ident_start c ≡ true → is_ident_start k ≡ false → (c == k) ≡ false
differs c k is never = go (c == k) refl
  where
    go : (b : Bool) → (c == k) ≡ b → b ≡ false
    go false e = refl
    go true e = absurd (true≢false (sym is ∙ ap is_ident_start (eqb-true c k e) ∙ never))

no-digit-starts : (c : ℕ) → c < 128 → is_ident_start c ≡ true → digit Decimal c ≡ false
unfolding is_ident_start
no-digit-starts c l is = grind (arith, nat_tests)

word-ascii : (c : ℕ) → begins_word c ≡ true → c < 128
word-ascii c h = grind (arith, nat_tests)

word-starts : (c : ℕ) → c < 128 → begins_word c ≡ true → is_ident_start c ≡ true
unfolding is_ident_start
word-starts c l h = rw (nat_lt-true c l) h
  where
    nat_lt-true : (c : ℕ) → c < 128 → nat_lt c 128 ≡ true
    nat_lt-true c l = grind (arith, nat_tests)

point-no-start : is_ident_start 46 ≡ false
unfolding is_ident_start
point-no-start = refl

double-no-start : is_ident_start 34 ≡ false
unfolding is_ident_start
double-no-start = refl

single-no-start : is_ident_start 39 ≡ false
unfolding is_ident_start
single-no-start = refl

starts-name : (mode : Mode) (flag : Bool) (a : ℕ) (cs : Text) → digit Decimal a ≡ false → is_ident_start a ≡ true → is_template mode.top ≡ false → lookahead mode flag (a ∷ cs) ≡ opens.Word
starts-name mode flag a cs number start template =
    let point = differs a 46 start point-no-start in
    let double = differs a 34 start double-no-start in
    let single = differs a 39 start single-no-start in
    rw (template, number, point, double, single, start) refl

pub past-ascii : (c : ℕ) → is_ascii c ≡ false → 128 ≤ c
past-ascii c h = grind (arith, nat_tests)

no-digit-past : (c : ℕ) → 128 ≤ c → digit Decimal c ≡ false
no-digit-past c past = grind (arith, nat_tests)

-- a name that begins past ASCII
pub foreign-opens : (mode : Mode) (flag : Bool) (text : Text) (c : ℕ) → slice_get text 0 ≡ Some c → 128 ≤ c → is_ident_start c ≡ true → is_template mode.top ≡ false → lookahead mode flag text ≡ opens.Word
foreign-opens mode flag text c e past start template =
    ap (lookahead mode flag) (first-cons text c e) ∙ starts-name mode flag c (drop 1 text) (no-digit-past c past) start template

starts-word : (mode : Mode) (flag : Bool) (a : ℕ) (cs : Text) → a < 128 → is_ident_start a ≡ true → is_template mode.top ≡ false → lookahead mode flag (a ∷ cs) ≡ opens.Word
starts-word mode flag a cs l start template = starts-name mode flag a cs (no-digit-starts a l start) start template

pub word-opens : (mode : Mode) (flag : Bool) (text : Text) (c : ℕ) → slice_get text 0 ≡ Some c → begins_word c ≡ true → is_template mode.top ≡ false → lookahead mode flag text ≡ opens.Word
word-opens mode flag text c e is template =
    let l = word-ascii c is in
    ap (lookahead mode flag) (first-cons text c e) ∙ starts-word mode flag c (drop 1 text) l (word-starts c l is) template

pub one-first : (text : Text) (c : ℕ) → slice_get text 0 ≡ Some c → length (take 1 text) ≡ 1
one-first text c e = ap (λ t. length (take 1 t)) (first-cons text c e)
