-- Runs of characters that pass a test, as fronts of their texts, and found again in front of other texts.
use Rattle.std.proofs.Common.{◌≡◌, ℕ, ◌+◌, Bool, true, false, ◌||◌, ◌==◌, List, [], ◌∷◌, ◌++◌, take, drop, length, Some, None, refl, ap, ◌∙◌, sym, eqb-true, arith}
use Rattle.std.specs.Prelude.{slice_get}
use Rattle.std.specs.List.{list_all, take_while, prefix_len}
use Rattle.std.proofs.lemmas.Bool.{and_parts}
use Rattle.std.proofs.lemmas.List.{drop_at}
use Rattle.std.proofs.lemmas.List.Folds.{length-prefix_len}
use Rattle.std.proofs.lemmas.List.Sums.{take_while-cons}
use Rattle.ecma_place.specs.Text.{Text}
use Rattle.ecma_grammar.specs.Fronts.{front, after, next_passes, next_is, begins_with}
use Rattle.ecma_grammar.specs.Locality.{separates}

pub begins_is : (k : ℕ) (text : Text) → next_is k text ≡ true → text ≡ k ∷ drop 1 text
begins_is k [] e = cc
begins_is k (c ∷ cs) e = ap (λ x. x ∷ cs) (eqb-true c k e)

pub length-take_while : (p : ℕ → Bool) (xs : List ℕ) → length (take_while p xs) ≡ prefix_len p xs
length-take_while p xs = length-prefix_len p xs

pub take_while-front : (p : ℕ → Bool) (xs : List ℕ) → take (length (take_while p xs)) xs ≡ take_while p xs
take_while-front p xs = ap (λ n. take n xs) (length-prefix_len p xs)

-- std's words for the same

pub front-is : (p : ℕ → Bool) (text : Text) → front p text ≡ take_while p text
front-is p [] = refl
front-is p (c ∷ cs) = go (p c) refl (front-is p cs)
  where
    go : (x : Bool) → p c ≡ x → front p cs ≡ take_while p cs → front p (c ∷ cs) ≡ take_while p (c ∷ cs)
    go true e more = rw (take_while-cons p c cs, e) (ap (λ l. c ∷ l) more)
    go false e more = rw (take_while-cons p c cs, e) refl

pub front_all : (p : ℕ → Bool) (text : Text) → list_all p (front p text) ≡ true
front_all p [] = refl
front_all p (c ∷ cs) = go (p c) refl (front_all p cs)
  where
    go : (x : Bool) → p c ≡ x → list_all p (front p cs) ≡ true → list_all p (front p (c ∷ cs)) ≡ true
    go true e more = rw (e, front) (rw e more)
    go false e more = rw (e, front)

pub front_run : (p : ℕ → Bool) (run tail : Text) → list_all p run ≡ true → next_passes p tail ≡ false → front p (run ++ tail) ≡ run
front_run p [] [] all stop = refl
front_run p [] (c ∷ cs) all stop = rw (stop, front)
front_run p (c ∷ cs) tail all stop =
    let (here, more) = and_parts (p c) (list_all p cs) all in
    rw (here, front) (ap (λ l. c ∷ l) (front_run p cs tail more stop))

pub after_run : (p : ℕ → Bool) (run tail : Text) → list_all p run ≡ true → next_passes p tail ≡ false → after p (run ++ tail) ≡ tail
after_run p [] [] all stop = refl
after_run p [] (c ∷ cs) all stop = rw (stop, after)
after_run p (c ∷ cs) tail all stop =
    let (here, more) = and_parts (p c) (list_all p cs) all in
    rw (here, after) (after_run p cs tail more stop)

-- the front and what follows it are the text
pub front_after : (p : ℕ → Bool) (text : Text) → front p text ++ after p text ≡ text
front_after p [] = refl
front_after p (c ∷ cs) = go (p c) refl (front_after p cs)
  where
    go : (x : Bool) → p c ≡ x → front p cs ++ after p cs ≡ cs → front p (c ∷ cs) ++ after p (c ∷ cs) ≡ c ∷ cs
    go true e more = rw (e, front, after) (ap (λ l. c ∷ l) more)
    go false e more = rw (e, front, after)

-- no separator passes a test that fails at a space and a line feed
pub separated : (p : ℕ → Bool) (text : Text) → p 32 ≡ false → p 10 ≡ false → separates text ≡ true → next_passes p text ≡ false
separated p [] a b h = refl
separated p (c ∷ cs) a b h = go (c == 32) (c == 10) refl refl h
  where
    go : (x y : Bool) → (c == 32) ≡ x → (c == 10) ≡ y → (x || y) ≡ true → p c ≡ false
    go true y e f h = ap p (eqb-true c 32 e) ∙ a
    go false true e f h = ap p (eqb-true c 10 f) ∙ b
    go false false e f h = cc

-- what a text begins with that stands behind a run, none of whose characters pass
pub begins_behind : (p q : ℕ → Bool) (run tail : Text) → ((c : ℕ) → q c ≡ true → p c ≡ false) → list_all q run ≡ true → next_passes p tail ≡ false
    → next_passes p (run ++ tail) ≡ false
begins_behind p q [] tail h all stop = stop
begins_behind p q (c ∷ cs) tail h all stop = h c (and_parts (q c) (list_all q cs) all).0

-- what follows a front, by its length
pub after_drop : (p : ℕ → Bool) (text : Text) → after p text ≡ drop (length (front p text)) text
after_drop p text = sym (drop_at (front p text) (after p text) _ refl) ∙ ap (drop (length (front p text))) (front_after p text)

-- a text behind another, at whose start no character passes, is not seen by the front of that other

pub front_before : (p : ℕ → Bool) (text r : Text) → next_passes p r ≡ false → front p (text ++ r) ≡ front p text
front_before p [] [] stop = refl
front_before p [] (c ∷ cs) stop = rw (stop, front)
front_before p (c ∷ cs) r stop = go (p c) refl (front_before p cs r stop)
  where
    go : (x : Bool) → p c ≡ x → front p (cs ++ r) ≡ front p cs → front p ((c ∷ cs) ++ r) ≡ front p (c ∷ cs)
    go true e more = rw (e, front) (ap (λ l. c ∷ l) more)
    go false e more = rw (e, front)

pub begins_before : (p : ℕ → Bool) (text r : Text) → next_passes p r ≡ false → next_passes p (text ++ r) ≡ next_passes p text
begins_before p [] r stop = stop
begins_before p (c ∷ cs) r stop = refl

pub begins_after_before : (p q : ℕ → Bool) (text r : Text) → next_passes p r ≡ false → next_passes q r ≡ false → next_passes q (after p (text ++ r)) ≡ next_passes q (after p text)
begins_after_before p q [] [] stop still = refl
begins_after_before p q [] (c ∷ cs) stop still = rw (stop, after) still
begins_after_before p q (c ∷ cs) r stop still = go (p c) refl (begins_after_before p q cs r stop still)
  where
    go : (x : Bool) → p c ≡ x → next_passes q (after p (cs ++ r)) ≡ next_passes q (after p cs) → next_passes q (after p ((c ∷ cs) ++ r)) ≡ next_passes q (after p (c ∷ cs))
    go true e more = rw (e, after) more
    go false e more = rw (e, after)

-- by the first character of a text

pub front_stops : (p : ℕ → Bool) (text : Text) (c : ℕ) → slice_get text 0 ≡ Some c → p c ≡ false → front p text ≡ []
front_stops p [] c e stop = refl
front_stops p (d ∷ ds) c e stop = let same : p d ≡ false = cc in rw same

pub after_stops : (p : ℕ → Bool) (text : Text) (c : ℕ) → slice_get text 0 ≡ Some c → p c ≡ false → after p text ≡ text
after_stops p [] c e stop = refl
after_stops p (d ∷ ds) c e stop = let same : p d ≡ false = cc in rw same

pub front_ends : (p : ℕ → Bool) (text : Text) → slice_get text 0 ≡ None → front p text ≡ []
front_ends p [] e = refl
front_ends p (d ∷ ds) e = cc

pub after_ends : (p : ℕ → Bool) (text : Text) → slice_get text 0 ≡ None → after p text ≡ text
after_ends p [] e = refl
after_ends p (d ∷ ds) e = cc

pub front_more : (p : ℕ → Bool) (text : Text) (c : ℕ) → slice_get text 0 ≡ Some c → p c ≡ true → front p text ≡ c ∷ front p (drop 1 text)
front_more p [] c e pass = cc
front_more p (d ∷ ds) c e pass =
    let same : p d ≡ true = cc in
    let which : d ≡ c = cc in
    rw (same, which)

pub after_more : (p : ℕ → Bool) (text : Text) (c : ℕ) → slice_get text 0 ≡ Some c → p c ≡ true → after p text ≡ after p (drop 1 text)
after_more p [] c e pass = cc
after_more p (d ∷ ds) c e pass = let same : p d ≡ true = cc in rw same

pub length_more : (text : Text) (c : ℕ) → slice_get text 0 ≡ Some c → length text ≡ length (drop 1 text) + 1
length_more [] c e = cc
length_more (d ∷ ds) c e = omega arith

-- a text that begins with a spelling is the spelling and what follows
pub begins_with-front : (needle text : Text) → begins_with needle text ≡ true → needle ++ drop (length needle) text ≡ text
begins_with-front [] text e = refl
begins_with-front (x ∷ xs) [] e = cc
begins_with-front (x ∷ xs) (c ∷ cs) e =
    let (here, more) = and_parts (c == x) (begins_with xs cs) e in
    let same : c ≡ x = eqb-true c x here in
    rw same (ap (λ l. x ∷ l) (begins_with-front xs cs more))
