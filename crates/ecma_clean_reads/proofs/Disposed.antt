-- What becomes of the faults of a clean read: none is recorded, and something waits behind it that did before or is new.
use Rattle.std.proofs.Common.{◌≡◌, ◌∙◌, Bool, true, false, not, ◌||◌, cond, List, [], ◌∷◌, ◌++◌, refl, sym, ap}
use Rattle.ecma_parts.specs.declared.found.Blame.{Blame}
use Rattle.ecma_parts.specs.declared.found.Blame.TheVariants.{Always, Strict, Module}
use Rattle.ecma_parts.specs.Found.{Fault}
use Rattle.ecma_state.specs.Disposition.{Disposition, Dropped, Errors, Recorded, Waiting, disposed, disposition, of_recorded, with_fault, with_faults}
use Rattle.ecma_state.specs.TokenAt.{is_empty}
use Rattle.ecma_syntax.specs.declared.context.Context.{Context}
use Rattle.ecma_token.specs.View.{ErrorView}
use Rattle.ecma_parts.specs.BareReads.{any_recorded, is_recorded}
use Rattle.ecma_clean_reads.proofs.Spoiling.{faults-some}

abbrev becomes : Bool → Disposition
becomes true = Recorded
becomes false = Waiting

-- where errors are not ignored a fault is recorded or waits
disposed-so : (context : Context) (blame : Blame) → context.ignore_error ≡ false → disposition context blame ≡ becomes (is_recorded context blame)
disposed-so context Always h = ap (λ b. cond b Dropped Recorded) h
disposed-so context Module h = go context.«module»
  where
    go : (b : Bool) → cond b Recorded Waiting ≡ becomes b
    go true = refl
    go false = refl
disposed-so context Strict h = go context.strict context.«module»
  where
    go : (strict in_module : Bool) → cond strict (of_recorded context) (cond in_module Recorded Waiting) ≡ becomes (strict || in_module)
    go true in_module = ap (λ b. cond b Dropped Recorded) h
    go false true = refl
    go false false = refl

or-both : (a b : Bool) → (a || b) ≡ false → (a ≡ false) × (b ≡ false)
or-both true b h = cc
or-both false b h = (refl, h)

-- a fault that waits
one-waits : (context : Context) (all : Errors) (f : Fault) → context.ignore_error ≡ false → is_recorded context f.blame ≡ false
    → with_fault context all f ≡ record { recorded = all.recorded; waiting = all.waiting ++ f.error ∷ [] }
one-waits context all f h e = ap (disposed all f.error) (disposed-so context f.blame h ∙ ap becomes e)

-- nothing is recorded
pub none-recorded : (context : Context) (all : Errors) (faults : List Fault) → context.ignore_error ≡ false → any_recorded context faults ≡ false → (with_faults context all faults).recorded ≡ all.recorded
none-recorded context all [] h e = refl
none-recorded context all (f ∷ faults) h e =
    let both = or-both (is_recorded context f.blame) (any_recorded context faults) e in
    none-recorded context (with_fault context all f) faults h both.1 ∙ ap (λ a. a.recorded) (one-waits context all f h both.0)

append-one : (xs : List ErrorView) (x : ErrorView) → is_empty (xs ++ x ∷ []) ≡ false
append-one [] x = refl
append-one (y ∷ xs) x = refl

some-wait : (context : Context) (all : Errors) (faults : List Fault) → context.ignore_error ≡ false → any_recorded context faults ≡ false → is_empty all.waiting ≡ false
    → is_empty (with_faults context all faults).waiting ≡ false
some-wait context all [] h e k = k
some-wait context all (f ∷ faults) h e k =
    let both = or-both (is_recorded context f.blame) (any_recorded context faults) e in
    some-wait context (with_fault context all f) faults h both.1 (ap (λ a. is_empty a.waiting) (one-waits context all f h both.0) ∙ append-one all.waiting f.error)

-- something waits that did, or is new
pub waits-so : (context : Context) (all : Errors) (faults : List Fault) (w v : Bool) → context.ignore_error ≡ false → any_recorded context faults ≡ false → is_empty all.waiting ≡ not w → v ≡ not (is_empty faults)
    → is_empty (with_faults context all faults).waiting ≡ not (w || v)
waits-so context all [] w v h e k is = k ∙ ap not (sym (none w)) ∙ ap (λ b. not (w || b)) (sym is)
  where
    none : (w : Bool) → (w || false) ≡ w
    none true = refl
    none false = refl
waits-so context all (f ∷ faults) w v h e k is =
    let both = or-both (is_recorded context f.blame) (any_recorded context faults) e in
    some-wait context (with_fault context all f) faults h both.1 (ap (λ a. is_empty a.waiting) (one-waits context all f h both.0) ∙ append-one all.waiting f.error)
    ∙ sym (ap not (or-true w)) ∙ ap (λ b. not (w || b)) (sym is)
  where
    or-true : (w : Bool) → (w || true) ≡ true
    or-true true = refl
    or-true false = refl

-- a fault that is recorded is, and stays so
pub some-recorded : (context : Context) (all : Errors) (faults : List Fault) → context.ignore_error ≡ false → any_recorded context faults ≡ true → is_empty (with_faults context all faults).recorded ≡ false
some-recorded context all [] h e = cc
some-recorded context all (f ∷ faults) h e = go (is_recorded context f.blame) refl e (some-recorded context (with_fault context all f) faults h)
  where
    go : (b : Bool) → is_recorded context f.blame ≡ b → (b || any_recorded context faults) ≡ true → (any_recorded context faults ≡ true → is_empty (with_faults context (with_fault context all f) faults).recorded ≡ false)
        → is_empty (with_faults context (with_fault context all f) faults).recorded ≡ false
    go true k e more =
        let now : with_fault context all f ≡ disposed all f.error Recorded = ap (disposed all f.error) (disposed-so context f.blame h ∙ ap becomes k) in
        faults-some context (with_fault context all f) faults (ap (λ a. is_empty a.recorded) now ∙ append-one all.recorded f.error)
    go false k e more = more e
