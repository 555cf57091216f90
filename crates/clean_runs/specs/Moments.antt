-- What a clean run goes through, step by step.
use Rattle.std.specs.Prelude.{ℕ, Bool, List, [], ◌∷◌, Option, Some, None, ◌≡◌}
use Rattle.clean_runs.specs.Grammar.{Token, Counting, read, set, reread, withdraw, Slot, Standing, nothing, Grammar}
use Rattle.clean_runs.specs.Clean.{Clean, end_first, end_next, read_first, read_next, read_again, set_mode, ask, refuse_first, refuse_next, take_back}

-- what stands before a step: the mode, the standing reread; and what the step answers
pub record Moment (M K : Type 0) : Type 0 where
  pub mode : M
  pub standing : Standing
  pub answer : Option (Token K)

abbrev pub moment : {M K : Type 0} → M → Standing → Option (Token K) → Moment M K
moment m a answer = record { mode = m; standing = a; answer = answer }

module _ {M S K : Type 0} (G : Grammar M S K) where
  -- the moments behind the end, where no reread stands; the last one stands behind all steps
  abbrev pub calm_moments : M → List (Counting S) → List (Moment M K)
  calm_moments m [] = record { mode = m; standing = nothing; answer = None } ∷ []
  calm_moments m (read ∷ cs) = record { mode = m; standing = nothing; answer = None } ∷ calm_moments m cs
  calm_moments m (set x ∷ cs) = record { mode = m; standing = nothing; answer = None } ∷ calm_moments (G.change x m) cs
  calm_moments m (reread ∷ cs) = record { mode = m; standing = nothing; answer = None } ∷ calm_moments m cs
  calm_moments m (withdraw ∷ cs) = record { mode = m; standing = nothing; answer = None } ∷ calm_moments m cs

  -- the moments of a clean run
  abbrev pub moments : {m : M} {p : Slot K} {a : Standing} {w : Bool} {here : List ℕ} {cs : List (Counting S)} {ks : List (Token K)} → Clean G m p a w here cs ks → List (Moment M K)
  moments {m} {p} {a} (end_first {cs = cs} v e c) = record { mode = m; standing = a; answer = None } ∷ calm_moments m cs
  moments {m} {p} {a} (end_next {cs = cs} v e c) = record { mode = m; standing = a; answer = None } ∷ calm_moments m cs
  moments {m} {p} {a} (read_first t th v e d) = record { mode = m; standing = a; answer = Some t } ∷ moments d
  moments {m} {p} {a} (read_next t th v e d) = record { mode = m; standing = a; answer = Some t } ∷ moments d
  moments {m} {p} {a} (read_again u s e d) = record { mode = m; standing = a; answer = Some u } ∷ moments d
  moments {m} {p} {a} (set_mode g d) = record { mode = m; standing = a; answer = None } ∷ moments d
  moments {m} {p} {a} (ask s d) = record { mode = m; standing = a; answer = None } ∷ moments d
  moments {m} {p} {a} (refuse_first d) = record { mode = m; standing = a; answer = None } ∷ moments d
  moments {m} {p} {a} (refuse_next s d) = record { mode = m; standing = a; answer = None } ∷ moments d
  moments {m} {p} {a} (take_back d) = record { mode = m; standing = a; answer = None } ∷ moments d

  -- a clean run of a text, by the steps and to the tokens of another, through the same moments
  abbrev pub Twin : {m : M} {p : Slot K} {a : Standing} {w : Bool} {here : List ℕ} {cs : List (Counting S)} {ks : List (Token K)} → Bool → List ℕ → Clean G m p a w here cs ks → Type 0
  Twin {m} {p} {a} {w} {here} {cs} {ks} w2 text d = (d2 : Clean G m p a w2 text cs ks) × (moments d2 ≡ moments d)
