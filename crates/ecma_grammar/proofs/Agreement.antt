-- Texts with the same first characters.
use Rattle.std.proofs.Common.{◌≡◌, ℕ, zero, suc, ◌<◌, ◌≤◌, Bool, true, false, cond, [], ◌∷◌, drop, take, length, refl, ap, ◌∙◌, sym, arith}
use Rattle.std.proofs.lemmas.List.{take-take}
use Rattle.ecma_place.specs.Text.{Text}
use Rattle.ecma_grammar.specs.Fronts.{front, after, next_passes}

-- the first n characters of the texts are the same
pub record Agree (n : ℕ) (t u : Text) : Type 0 where
  pub same : take n t ≡ take n u

pub agree_less : (m n : ℕ) (t u : Text) → m ≤ n → Agree n t u → Agree m t u
agree_less m n t u h a = record { same = sym (take-take m n t h) ∙ ap (take m) a.same ∙ take-take m n u h }

pub agree_behind : (n : ℕ) (c d : ℕ) (t u : Text) → Agree (suc n) (c ∷ t) (d ∷ u) → Agree n t u
agree_behind n c d t u a = let h = a.same in record { same = cc }

pub next_agree : (n : ℕ) (p : ℕ → Bool) (t u : Text) → Agree (suc n) t u → next_passes p t ≡ next_passes p u
next_agree n p [] [] a = refl
next_agree n p [] (d ∷ ds) a = let h = a.same in cc
next_agree n p (c ∷ cs) [] a = let h = a.same in cc
next_agree n p (c ∷ cs) (d ∷ ds) a = let h = a.same in let e : c ≡ d = cc in ap p e

pub drop_agree : (n : ℕ) (t u : Text) → Agree (suc n) t u → Agree n (drop 1 t) (drop 1 u)
drop_agree n [] [] a = record { same = refl }
drop_agree n [] (d ∷ ds) a = let h = a.same in cc
drop_agree n (c ∷ cs) [] a = let h = a.same in cc
drop_agree n (c ∷ cs) (d ∷ ds) a = agree_behind n c d cs ds a

-- at most k characters of a front are those of the first k characters
pub take_front : (k : ℕ) (p : ℕ → Bool) (t u : Text) → Agree k t u → take k (front p t) ≡ take k (front p u)
take_front zero p t u a = refl
take_front (suc k) p [] [] a = refl
take_front (suc k) p [] (d ∷ ds) a = let h = a.same in cc
take_front (suc k) p (c ∷ cs) [] a = let h = a.same in cc
take_front (suc k) p (c ∷ cs) (d ∷ ds) a =
    let h = a.same in
    let e : c ≡ d = cc in
    rw (← e) (go (p c) (take_front k p cs ds (agree_behind k c d cs ds a)))
  where
    go : (x : Bool) → take k (front p cs) ≡ take k (front p ds) → take (suc k) (cond x (c ∷ front p cs) []) ≡ take (suc k) (cond x (c ∷ front p ds) [])
    go true more = ap (λ l. c ∷ l) more
    go false more = refl

-- a front is found by one character more
pub front_agree : (n : ℕ) (p : ℕ → Bool) (t u : Text) → length (front p t) < n → Agree n t u → front p t ≡ front p u
front_agree zero p t u h a = absurd (omega (arith, h))
front_agree (suc n) p [] [] h a = refl
front_agree (suc n) p [] (d ∷ ds) h a = let e = a.same in cc
front_agree (suc n) p (c ∷ cs) [] h a = let e = a.same in cc
front_agree (suc n) p (c ∷ cs) (d ∷ ds) h a =
    let e = a.same in
    let same : c ≡ d = cc in
    rw (← same) (go (p c) h (λ less. front_agree n p cs ds less (agree_behind n c d cs ds a)))
  where
    go : (x : Bool) → length (cond x (c ∷ front p cs) []) < suc n → (length (front p cs) < n → front p cs ≡ front p ds) → cond x (c ∷ front p cs) [] ≡ cond x (c ∷ front p ds) []
    go true h more = ap (λ l. c ∷ l) (more (omega (arith, h)))
    go false h more = refl

-- and so is what follows it
pub after_agree : (n : ℕ) (p q : ℕ → Bool) (t u : Text) → length (front p t) < n → Agree n t u → next_passes q (after p t) ≡ next_passes q (after p u)
after_agree zero p q t u h a = absurd (omega (arith, h))
after_agree (suc n) p q [] [] h a = refl
after_agree (suc n) p q [] (d ∷ ds) h a = let e = a.same in cc
after_agree (suc n) p q (c ∷ cs) [] h a = let e = a.same in cc
after_agree (suc n) p q (c ∷ cs) (d ∷ ds) h a =
    let e = a.same in
    let same : c ≡ d = cc in
    rw (← same) (go (p c) h (λ less. after_agree n p q cs ds less (agree_behind n c d cs ds a)))
  where
    go : (x : Bool) → length (cond x (c ∷ front p cs) []) < suc n → (length (front p cs) < n → next_passes q (after p cs) ≡ next_passes q (after p ds))
        → next_passes q (cond x (after p cs) (c ∷ cs)) ≡ next_passes q (cond x (after p ds) (c ∷ ds))
    go true h more = more (omega (arith, h))
    go false h more = refl

-- at most k characters of a front are found by one character more than they are
pub take_front_agree : (n k : ℕ) (p : ℕ → Bool) (t u : Text) → length (take k (front p t)) < n → Agree n t u → take k (front p t) ≡ take k (front p u)
take_front_agree n zero p t u h a = refl
take_front_agree zero (suc k) p t u h a = absurd (omega (arith, h))
take_front_agree (suc n) (suc k) p [] [] h a = refl
take_front_agree (suc n) (suc k) p [] (d ∷ ds) h a = let e = a.same in cc
take_front_agree (suc n) (suc k) p (c ∷ cs) [] h a = let e = a.same in cc
take_front_agree (suc n) (suc k) p (c ∷ cs) (d ∷ ds) h a =
    let e = a.same in
    let same : c ≡ d = cc in
    rw (← same) (go (p c) h (λ less. take_front_agree n k p cs ds less (agree_behind n c d cs ds a)))
  where
    go : (x : Bool) → length (take (suc k) (cond x (c ∷ front p cs) [])) < suc n → (length (take k (front p cs)) < n → take k (front p cs) ≡ take k (front p ds))
        → take (suc k) (cond x (c ∷ front p cs) []) ≡ take (suc k) (cond x (c ∷ front p ds) [])
    go true h more = ap (λ l. c ∷ l) (more (omega (arith, h)))
    go false h more = refl
