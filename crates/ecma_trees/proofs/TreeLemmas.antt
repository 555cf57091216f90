-- The values on a way, however many come behind them.
use Rattle.std.proofs.Common.{◌≡◌, ◌∙◌, ◌<◌, ℕ, suc, zero, append_assoc, ◌+◌, ◌≤◌, Bool, true, false, List, length, length-append, arith, eqb-true, eq-eqb, [], ◌∷◌, ◌++◌, reverse, refl, sym, subst, ap}
use Rattle.std.specs.Prelude.{◌==◌, if◌then◌else◌, slice_get, Some, take, drop, nat_lt, slice_index_or}
use Rattle.std.proofs.lemmas.List.{length-reverse, length-take-le, reverse-append, take-append-drop}
use Rattle.std.proofs.lemmas.Bool.Decides.{nat_tests}
use Rattle.std.proofs.lemmas.Option.{slice_get_within}
use Rattle.ecma_trees.specs.Trees.{Grows, before_in, way}
use Rattle.ecma_trees.specs.declared.tree.Node.{Node}

not-yet : (n m : ℕ) → n ≤ m → (n == suc m) ≡ false
not-yet n m within = go (n == suc m) refl
  where
    go : (b : Bool) → (n == suc m) ≡ b → (n == suc m) ≡ false
    go true e = absurd (omega (arith, within, eqb-true n (suc m) e))
    go false e = e

pub longer : {T : Type 0} (more es : List (Node T)) (n : ℕ) → n ≤ length es → n ≤ length (more ++ es)
longer more es n within = rw (length-append more es) (omega (arith, within))

one-more : {T : Type 0} (n : ℕ) (e : Node T) (es : List (Node T)) → n ≤ length es → way n (e ∷ es) ≡ way n es
one-more n e es within = rw (not-yet n (length es) within) refl

pub way-more : {T : Type 0} (n : ℕ) (more es : List (Node T)) → n ≤ length es → way n (more ++ es) ≡ way n es
way-more n [] es within = refl
way-more n (e ∷ more) es within = one-more n e (more ++ es) (longer more es n within) ∙ way-more n more es within

-- the way to the newest
pub way-newest : {T : Type 0} (n : ℕ) (e : Node T) (es : List (Node T)) → n ≡ suc (length es) → way n (e ∷ es) ≡ e.value ∷ way e.before es
way-newest n e es newest = rw (eq-eqb n (suc (length es)) newest) refl

newest-first : {T : Type 0} (es : List (Node T)) (e : Node T) → reverse (es ++ e ∷ []) ≡ e ∷ reverse es
newest-first es e = reverse-append es (e ∷ [])

pub grows-one : {T : Type 0} (old new : List (Node T)) (e : Node T) → new ≡ old ++ e ∷ [] → Grows (reverse old) (reverse new)
grows-one old new e is = (e ∷ [], ap reverse is ∙ newest-first old e)

-- a node that has another number is passed over
pub way-passed : {T : Type 0} (n : ℕ) (es : List (Node T)) (e : Node T) → (n == length es + 1) ≡ false → way n (reverse (es ++ e ∷ [])) ≡ way n (reverse es)
way-passed n es e other = rw (newest-first es e) (rw (other-number) refl)
  where
    count : suc (length (reverse es)) ≡ length es + 1
    count = rw (length-reverse es) (omega arith)

    other-number : (n == suc (length (reverse es))) ≡ false
    other-number = rw count other

-- one that has this number is taken
pub way-taken : {T : Type 0} (n : ℕ) (values : List T) (es : List (Node T)) (e : Node T) → n ≡ length es + 1
    → values ++ way n (reverse (es ++ e ∷ [])) ≡ (values ++ e.value ∷ []) ++ way e.before (reverse es)
way-taken n values es e is =
    ap (λ w. values ++ w) (ap (way n) (newest-first es e) ∙ way-newest n e (reverse es) number)
    ∙ sym (append_assoc values (e.value ∷ []) (way e.before (reverse es)))
  where
    number : n ≡ suc (length (reverse es))
    number = rw (length-reverse es) (omega (arith, is))

-- no way leads to what is no number
pub way-past : {T : Type 0} (n : ℕ) (es : List (Node T)) → suc (length es) ≤ n → way n es ≡ []
way-past n [] past = refl
way-past n (e ∷ es) past = rw (other) (way-past n es (omega (arith, past)))
  where
    other : (n == suc (length es)) ≡ false
    other = go (n == suc (length es)) refl
      where
        go : (b : Bool) → (n == suc (length es)) ≡ b → (n == suc (length es)) ≡ false
        go true h = absurd (omega (arith, past, eqb-true n (suc (length es)) h))
        go false h = h

-- no value has the number 0
pub way-none : {T : Type 0} (es : List (Node T)) → way 0 es ≡ []
way-none [] = refl
way-none (e ∷ es) = rw (not-yet 0 (length es) (omega arith)) (way-none es)

drop-at : {T : Type 0} (es : List T) (k : ℕ) (e : T) → slice_get es k ≡ Some e → drop k es ≡ e ∷ drop (suc k) es
drop-at [] k e found = cc
drop-at (x ∷ es) zero e found = let same : x ≡ e = cc in ap (λ y. y ∷ es) same
drop-at (x ∷ es) (suc k) e found = drop-at es k e found

-- what stands at a number
way-at : {T : Type 0} (es : List (Node T)) (k : ℕ) (e : Node T) → slice_get es k ≡ Some e → way (suc k) (reverse es) ≡ e.value ∷ way e.before (reverse (take k es))
way-at es k e found =
    ap (way (suc k)) (ap reverse whole ∙ reverse-append (take k es ++ e ∷ []) (drop (suc k) es))
    ∙ way-more (suc k) (reverse (drop (suc k) es)) (reverse (take k es ++ e ∷ [])) within
    ∙ ap (way (suc k)) (newest-first (take k es) e)
    ∙ way-newest (suc k) e (reverse (take k es)) (ap suc (sym older))
  where
    inside : k < length es
    inside = slice_get_within es k e found

    older : length (reverse (take k es)) ≡ k
    older = length-reverse (take k es) ∙ length-take-le k es (omega (arith, inside))

    whole : es ≡ (take k es ++ e ∷ []) ++ drop (suc k) es
    whole = sym (take-append-drop k es) ∙ ap (λ rest. take k es ++ rest) (drop-at es k e found) ∙ sym (append_assoc (take k es) (e ∷ []) (drop (suc k) es))

    within : suc k ≤ length (reverse (take k es ++ e ∷ []))
    within = rw (newest-first (take k es) e) (omega (arith, older))

-- the way before it
way-before : {T : Type 0} (es : List (Node T)) (k : ℕ) (before : ℕ) → k < length es → way before (reverse (take k es)) ≡ way (before_in before (suc k)) (reverse es)
way-before es k before inside = go (nat_lt before (suc k)) refl
  where
    older : length (reverse (take k es)) ≡ k
    older = length-reverse (take k es) ∙ length-take-le k es (omega (arith, inside))

    whole : reverse es ≡ reverse (drop k es) ++ reverse (take k es)
    whole = ap reverse (sym (take-append-drop k es)) ∙ reverse-append (take k es) (drop k es)

    go : (b : Bool) → nat_lt before (suc k) ≡ b → way before (reverse (take k es)) ≡ way (if b then before else 0) (reverse es)
    go true e = let less : before < suc k = grind (arith, nat_tests) in sym (ap (way before) whole ∙ way-more before (reverse (drop k es)) (reverse (take k es)) (omega (arith, less, older)))
    go false e = let more : suc k ≤ before = grind (arith, nat_tests) in way-past before (reverse (take k es)) (omega (arith, more, older)) ∙ sym (way-none (reverse es))

pub way-last : {T : Type 0} (es : List (Node T)) (k : ℕ) (e : Node T) → slice_get es k ≡ Some e → way (suc k) (reverse es) ≡ e.value ∷ way (before_in e.before (suc k)) (reverse es)
way-last es k e found = way-at es k e found ∙ ap (λ w. e.value ∷ w) (way-before es k e.before (slice_get_within es k e found))

-- what is added before the rest
pub reverse-behind : {T : Type 0} (x : T) (xs ys : List T) → reverse (x ∷ xs) ++ ys ≡ reverse xs ++ x ∷ ys
reverse-behind x xs ys = ap (λ r. r ++ ys) (reverse-append (x ∷ []) xs) ∙ append_assoc (reverse xs) (x ∷ []) ys

-- Values are added behind a way, and these are left.
pub record IsExtending {T : Type 0} (old : List (Node T)) (before : ℕ) (all : List T) (now : List (Node T)) (number : ℕ) (left : List T) : Type 0 where
  pub reached : all ++ way before old ≡ reverse left ++ way number now
  pub within : before ≤ length old → number ≤ length now
  pub grows : Grows old now

grows-further : {T : Type 0} (old now next : List (Node T)) → Grows old now → Grows now next → Grows old next
grows-further old now next one two = (two.0 ++ one.0, two.1 ∙ ap (λ w. two.0 ++ w) one.1 ∙ sym (append_assoc two.0 one.0 old))

pub extends-further : {T : Type 0} (old now next : List (Node T)) (before number behind : ℕ) (all here left : List T) (x : T) → IsExtending old before all now number here → here ≡ x ∷ left
    → way behind next ≡ x ∷ way number now → behind ≤ length next → Grows now next → IsExtending old before all next behind left
extends-further old now next before number behind all here left x is first newest within grows = record {
  reached = is.reached ∙ ap (λ list. reverse list ++ way number now) first ∙ reverse-behind x left (way number now) ∙ ap (λ w. reverse left ++ w) (sym newest);
  within = λ h. within;
  grows = grows-further old now next is.grows grows;
}

-- what a look-up answers

looked-up : {A : Type 0} (xs : List A) (n : ℕ) (x : A) → n < length xs → ((d : A) → x ≡ slice_index_or xs n d) → slice_get xs n ≡ Some x
looked-up [] n x less is = absurd (omega (arith, less))
looked-up (y ∷ xs) zero x less is = ap (λ z. Some z) (sym (is x))
looked-up (y ∷ xs) (suc n) x less is = looked-up xs n x (omega (arith, less)) is

pub found-last : {T : Type 0} (es all : List (Node T)) (number index : ℕ) (e : Node T) → reverse es ≡ all → suc index ≡ number → index < length es → ((d : Node T) → e ≡ slice_index_or es index d)
    → way number all ≡ e.value ∷ way (before_in e.before number) all
found-last es all number index e shows next less is =
    subst (λ (n : ℕ). way n all ≡ e.value ∷ way (before_in e.before n) all) next
    (subst (λ (a : List (Node _)). way (suc index) a ≡ e.value ∷ way (before_in e.before (suc index)) a) shows (way-last es index e (looked-up es index e less is)))

pub none-last : {T : Type 0} (es all : List (Node T)) (number : ℕ) → reverse es ≡ all → suc (length es) ≤ number → way number all ≡ []
none-last es all number shows past =
    ap (way number) (sym shows) ∙ way-past number (reverse es) (let same = length-reverse es in omega (arith, past, same))
