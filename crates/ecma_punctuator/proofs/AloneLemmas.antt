-- When a text begins with what its first character alone spells: the second character of a longer punctuator is the first
-- again or `=`, or the `>` of `=>`.
use Rattle.std.proofs.Common.{◌≡◌, ℕ, ◌<◌, Bool, true, false, ◌||◌, ◌&&◌, ◌==◌, List, [], ◌∷◌, drop, Option, Some, None, slice_get, refl, sym, ap, subst, ◌∙◌, not, eqb-true, eq-eqb, true≢false, arith, encode_utf8_all}
use Rattle.std.specs.Prelude.{IfSome}
use Rattle.std.specs.List.{list_all}
use Rattle.std.specs.Char.{is_ascii, is_ascii_digit}
use Rattle.std.proofs.Math.Bool.{and-false}
use Rattle.std.proofs.lemmas.Bool.{and_parts}
use Rattle.std.proofs.lemmas.Bool.Decides.{nat_tests}
use Rattle.std.proofs.lemmas.Str.{encode_ascii}
use Rattle.ecma_place.specs.Text.{Text}
use Rattle.ecma_place.proofs.CursorLemmas.{first_byte}
use Rattle.ecma_place.proofs.RunLemmas.{first-cons}
use Rattle.ecma_token.specs.declared.token.Radix.TheVariants.{Decimal}
use Rattle.ecma_token.specs.declared.token.Token.{Token}
use Rattle.ecma_grammar.specs.Fronts.{begins_with, next_is, next_passes}
use Rattle.ecma_grammar.specs.Numbers.{digit, opens_fraction}
use Rattle.ecma_grammar.specs.Punctuators.{Punctuator, alone_or, angle_in, first_of, is_lone, punctuators, spells}
use Rattle.ecma_grammar.proofs.PunctuatorLemmas.{lone-everywhere}
use Rattle.ecma_punctuator.specs.Alone.{IsSpelledBy, StandsAlone}
use Rattle.ecma_punctuator.specs.PunctuatorKinds.{kind_token}
use Rattle.ecma_punctuator.specs.declared.punctuator_kind.PunctuatorKind.{PunctuatorKind}

-- The table

-- the second character of a longer spelling is the first again or `=`, or the `>` of `=>`
goes_on_by_rule : Text → Bool
goes_on_by_rule [] = true
goes_on_by_rule (a ∷ []) = true
goes_on_by_rule (a ∷ b ∷ more) = (b == a || b == 61) || (a == 61 && b == 62)

by_rule : Punctuator → Bool
by_rule p = goes_on_by_rule p.spelling

all-by-rule : list_all by_rule punctuators ≡ true
unfolding by_rule goes_on_by_rule
all-by-rule = refl

-- behind the character nothing follows by which a longer spelling goes on
pub record GoesNoFurther (c : ℕ) (cs : Text) : Type 0 where
  pub same : next_is c cs ≡ false
  pub equals : next_is 61 cs ≡ false
  pub arrow : (c == 61 && next_is 62 cs) ≡ false

second : (a b c : ℕ) (cs : Text) → ((b == a || b == 61) || (a == 61 && b == 62)) ≡ true → GoesNoFurther c cs → (c == a) ≡ true → next_is b cs ≡ false
second a b c [] rule none is = refl
second a b c (d ∷ ds) rule none is = go (d == b) refl
  where
    go : (x : Bool) → (d == b) ≡ x → x ≡ false
    go false e = refl
    go true e =
        let same : d ≡ b = eqb-true d b e in
        let first : c ≡ a = eqb-true c a is in
        let not-same : (d == c) ≡ false = none.same in
        let not-equals : (d == 61) ≡ false = none.equals in
        let not-arrow : (c == 61 && d == 62) ≡ false = none.arrow in
        absurd (grind (arith, nat_tests))

begins-second : (b : ℕ) (more cs : Text) → next_is b cs ≡ false → begins_with (b ∷ more) cs ≡ false
begins-second b more [] e = refl
begins-second b more (d ∷ ds) e = rw e refl

same-begin : (s : Text) (c : ℕ) (cs : Text) → goes_on_by_rule s ≡ true → GoesNoFurther c cs → begins_with s (c ∷ cs) ≡ begins_with s (c ∷ [])
unfolding goes_on_by_rule
same-begin [] c cs rule none = refl
same-begin (a ∷ []) c cs rule none = refl
same-begin (a ∷ b ∷ more) c cs rule none = go (c == a) refl
  where
    go : (x : Bool) → (c == a) ≡ x → (x && begins_with (b ∷ more) cs) ≡ (x && false)
    go false e = refl
    go true e = begins-second b more cs (second a b c cs rule none e)

same-first : (ps : List Punctuator) (c : ℕ) (cs : Text) → list_all by_rule ps ≡ true → GoesNoFurther c cs → first_of ps (c ∷ cs) ≡ first_of ps (c ∷ [])
unfolding by_rule
same-first [] c cs all none = refl
same-first (p ∷ ps) c cs all none =
    let parts = and_parts (by_rule p) (list_all by_rule ps) all in
    rw (same-begin p.spelling c cs parts.0 none, same-first ps c cs parts.1 none) refl

no-fraction : (c : ℕ) → opens_fraction (c ∷ []) ≡ false
no-fraction c = and-false (c == 46)

pub stands-alone : (c : ℕ) (cs : Text) → GoesNoFurther c cs → opens_fraction (c ∷ cs) ≡ false → StandsAlone (c ∷ cs)
stands-alone c cs none fraction type_mode = go (angle_in type_mode c)
  where
    go : (o : Option Token) → alone_or o c cs ≡ alone_or o c []
    go (Some t) = refl
    go None = rw (fraction, no-fraction c) (same-first punctuators c cs all-by-rule none)

-- The byte behind the character

not-next : (cs : Text) (k b : ℕ) → k < 128 → slice_get (encode_utf8_all cs) 0 ≡ Some b → (b == k) ≡ false → next_is k cs ≡ false
not-next [] k b l at other = refl
not-next (c ∷ cs) k b l at other = go (c == k) refl
  where
    go : (is : Bool) → (c == k) ≡ is → is ≡ false
    go false e = refl
    go true e =
        let same : c ≡ k = eqb-true c k e in
        let byte : slice_get (encode_utf8_all (c ∷ cs)) 0 ≡ Some k = (first_byte (c ∷ cs) k l).1 (ap Some same) in
        let equal : b ≡ k = cc in
        absurd (true≢false (sym (eq-eqb b k equal) ∙ other))

digit-ascii : (c : ℕ) → digit Decimal c ≡ true → c < 128
digit-ascii c h = grind (arith, nat_tests)

no-digit : (cs : Text) (b : ℕ) → slice_get (encode_utf8_all cs) 0 ≡ Some b → digit Decimal b ≡ false → next_passes (digit Decimal) cs ≡ false
no-digit [] b at other = refl
no-digit (c ∷ cs) b at other = go (digit Decimal c) refl
  where
    go : (is : Bool) → digit Decimal c ≡ is → is ≡ false
    go false e = refl
    go true e =
        let byte : slice_get (encode_utf8_all (c ∷ cs)) 0 ≡ Some c = (first_byte (c ∷ cs) c (digit-ascii c e)).1 refl in
        let equal : b ≡ c = cc in
        absurd (true≢false (sym e ∙ ap (digit Decimal) (sym equal) ∙ other))

no-digit-byte : (b : ℕ) → is_ascii_digit b ≡ false → digit Decimal b ≡ false
no-digit-byte b h = grind (arith, nat_tests)

-- what the byte behind the character may not be
pub record EndsBehind (c b : ℕ) : Type 0 where
  pub same : (b == c) ≡ false
  pub equals : (b == 61) ≡ false
  pub arrow : (c == 61 && b == 62) ≡ false
  pub fraction : (c == 46 && is_ascii_digit b) ≡ false

arrow-none : (c b : ℕ) (cs : Text) → slice_get (encode_utf8_all cs) 0 ≡ Some b → (c == 61 && b == 62) ≡ false → (c == 61 && next_is 62 cs) ≡ false
arrow-none c b cs at h = go (c == 61) h
  where
    go : (x : Bool) → (x && b == 62) ≡ false → (x && next_is 62 cs) ≡ false
    go false h = refl
    go true h = not-next cs 62 b (omega arith) at h

fraction-none : (c b : ℕ) (cs : Text) → slice_get (encode_utf8_all cs) 0 ≡ Some b → (c == 46 && is_ascii_digit b) ≡ false → opens_fraction (c ∷ cs) ≡ false
fraction-none c b cs at h = go (c == 46) h
  where
    go : (x : Bool) → (x && is_ascii_digit b) ≡ false → (x && next_passes (digit Decimal) cs) ≡ false
    go false h = refl
    go true h = no-digit cs b at (no-digit-byte b h)

pub byte-behind : (text : Text) (c b : ℕ) → c < 128 → slice_get text 0 ≡ Some c → Some b ≡ slice_get (encode_utf8_all text) 1 → EndsBehind c b → StandsAlone text
unfolding lib.Utf8.encode
byte-behind text c b low first at ends =
    let whole : text ≡ c ∷ drop 1 text = first-cons text c first in
    let next : slice_get (encode_utf8_all (drop 1 text)) 0 ≡ Some b = sym (at ∙ ap (λ t. slice_get (encode_utf8_all t) 1) whole ∙ behind-low c (drop 1 text) low) in
    let none : GoesNoFurther c (drop 1 text) = record {
      same = not-next (drop 1 text) c b low next ends.same;
      equals = not-next (drop 1 text) 61 b (omega arith) next ends.equals;
      arrow = arrow-none c b (drop 1 text) next ends.arrow;
    } in
    subst StandsAlone (sym whole) (stands-alone c (drop 1 text) none (fraction-none c b (drop 1 text) next ends.fraction))
  where
    behind-low : (c : ℕ) (cs : Text) → c < 128 → slice_get (encode_utf8_all (c ∷ cs)) 1 ≡ slice_get (encode_utf8_all cs) 0
    behind-low c cs low = rw (encode_ascii c low) refl

not-true : (b : Bool) → not b ≡ true → b ≡ false
not-true true h = cc
not-true false h = refl

or-false : (x y : Bool) → (x || y) ≡ false → (x ≡ false) × (y ≡ false)
or-false true y h = cc
or-false false y h = (refl, h)

-- what a reader asks of the two
pub behind-byte : (text : Text) (c b : ℕ) (goes_on opens : Bool) → c < 128 → slice_get text 0 ≡ Some c → Some b ≡ slice_get (encode_utf8_all text) 1
    → goes_on ≡ ((b == c || b == 61) || (c == 61 && b == 62)) → goes_on ≡ false → opens ≡ (c == 46 && is_ascii_digit b) → not opens ≡ true → StandsAlone text
behind-byte text c b goes_on opens low first at more ends number whole =
    let none = or-false (b == c || b == 61) (c == 61 && b == 62) (sym more ∙ ends) in
    let two = or-false (b == c) (b == 61) none.0 in
    byte-behind text c b low first at (record { same = two.0; equals = two.1; arrow = none.1; fraction = sym number ∙ not-true opens whole })

-- Characters with which no longer punctuator begins

no_more_behind : Text → Bool
no_more_behind [] = true
no_more_behind (a ∷ []) = true
no_more_behind (a ∷ b ∷ more) = not (is_lone a)

lone_by_rule : Punctuator → Bool
lone_by_rule p = no_more_behind p.spelling

all-lone-by-rule : list_all lone_by_rule punctuators ≡ true
unfolding lone_by_rule no_more_behind is_lone
all-lone-by-rule = refl

lone-begin : (s : Text) (c : ℕ) (cs : Text) → no_more_behind s ≡ true → is_lone c ≡ true → begins_with s (c ∷ cs) ≡ begins_with s (c ∷ [])
unfolding no_more_behind
lone-begin [] c cs rule lone = refl
lone-begin (a ∷ []) c cs rule lone = refl
lone-begin (a ∷ b ∷ more) c cs rule lone = go (c == a) refl
  where
    go : (x : Bool) → (c == a) ≡ x → (x && begins_with (b ∷ more) cs) ≡ (x && false)
    go false e = refl
    go true e = absurd (true≢false (sym lone ∙ ap is_lone (eqb-true c a e) ∙ not-true (is_lone a) rule))

lone-first : (ps : List Punctuator) (c : ℕ) (cs : Text) → list_all lone_by_rule ps ≡ true → is_lone c ≡ true → first_of ps (c ∷ cs) ≡ first_of ps (c ∷ [])
unfolding lone_by_rule
lone-first [] c cs all lone = refl
lone-first (p ∷ ps) c cs all lone =
    let parts = and_parts (lone_by_rule p) (list_all lone_by_rule ps) all in
    rw (lone-begin p.spelling c cs parts.0 lone, lone-first ps c cs parts.1 lone) refl

pub lone-spelled : (c : ℕ) (kind : PunctuatorKind) (text : Text) → is_lone c ≡ true → IsSpelledBy c kind → first_of punctuators (c ∷ text) ≡ Some (spells (c ∷ []) (kind_token kind))
lone-spelled c kind text lone spelled = lone-first punctuators c text all-lone-by-rule lone ∙ sym (lone-everywhere false (c ∷ []) c refl lone) ∙ spelled false

pub past-ascii : (c : ℕ) → is_ascii c ≡ false → is_lone c ≡ false
unfolding is_lone
past-ascii c h = grind (arith, nat_tests)

pub lone-found : (c : ℕ) (found : Option PunctuatorKind) → is_lone c ≡ true → IfSome found (IsSpelledBy c)
    → IfSome found (λ kind. (text : Text) → first_of punctuators (c ∷ text) ≡ Some (spells (c ∷ []) (kind_token kind)))
lone-found c None lone spelled = spelled
lone-found c (Some kind) lone spelled = λ text. lone-spelled c kind text lone spelled
