-- Clean runs as a function: whether a list of steps reads a text cleanly, and then what it keeps and goes through.
use Rattle.std.specs.Prelude.{ℕ, Bool, true, false, not, ◌&&◌, ◌||◌, List, [], ◌∷◌, Option, Some, None, ◌≡◌, if◌then◌else◌}
use Rattle.clean_runs.specs.Grammar.{Token, Found, token, ended, faulty, Counting, read, set, reread, withdraw, first, Standing, nothing, asked, answered, Grammar, behind}
use Rattle.clean_runs.specs.Clean.{Clean}
use Rattle.clean_runs.specs.Moments.{Moment, calm_moments, moment, moments}

pub record Walked (M K : Type 0) : Type 0 where
  pub kept : List (Token K)
  pub moments : List (Moment M K)

abbrev pub with_moment : {M K : Type 0} → Moment M K → Option (Walked M K) → Option (Walked M K)
with_moment m None = None
with_moment m (Some x) = Some (record { kept = x.kept; moments = m ∷ x.moments })

abbrev pub with_token : {M K : Type 0} → Token K → Option (Walked M K) → Option (Walked M K)
with_token p None = None
with_token p (Some x) = Some (record { kept = p ∷ x.kept; moments = x.moments })

abbrev pub walked_if : {M K : Type 0} → Bool → Option (Walked M K) → Option (Walked M K)
walked_if true o = o
walked_if false o = None

-- a read, where a reread was asked for or not; where one was answered, no further read is plain
abbrev pub by_standing : {A : Type 0} → Standing → Option A → Option A → Option A
by_standing nothing plain again = plain
by_standing asked plain again = again
by_standing answered plain again = None

module _ {M S K : Type 0} (G : Grammar M S K) where
  -- no step behind the end records an error
  abbrev pub is_calm : Bool → List (Counting S) → Bool
  is_calm w [] = true
  is_calm w (read ∷ cs) = is_calm w cs
  is_calm w (set x ∷ cs) = not (G.records x && w) && is_calm w cs
  is_calm w (reread ∷ cs) = is_calm w cs
  is_calm w (withdraw ∷ cs) = is_calm w cs

  abbrev pub calm_walk : Bool → M → List (Counting S) → Option (Walked M K)
  calm_walk w m cs = walked_if (is_calm w cs) (Some (record { kept = []; moments = calm_moments G m cs }))

  -- what was found is the end, or a token behind which the run goes on
  abbrev pub walk_found : M → Bool → List (Counting S) → (M → Token K → Bool → List ℕ → Option (Walked M K)) → Found K → Option (Walked M K)
  walk_found m w cs onward (token t there v) = with_moment (moment m nothing (Some t)) (onward (G.after m t) t (w || v) there)
  walk_found m w cs onward (ended v) = with_moment (moment m nothing None) (calm_walk (w || v) m cs)
  walk_found m w cs onward faulty = None

  abbrev pub walk_again : M → (M → Token K → Option (Walked M K)) → Bool → Option (Token K) → Option (Walked M K)
  walk_again m onward true (Some u) = with_moment (moment m asked (Some u)) (onward (G.after m u) u)
  walk_again m onward true None = None
  walk_again m onward false found = None

  -- behind a token
  abbrev pub walk : M → Token K → Standing → Bool → List ℕ → List (Counting S) → Option (Walked M K)
  walk m p a w here [] = None
  walk m p a w here (read ∷ cs) =
      by_standing
      a
      (with_token p (walk_found m w cs (λ m2 t w2 there. walk m2 t nothing w2 there cs) (G.scan m (behind p here))))
      (walk_again m (λ m2 u. walk m2 u answered w here cs) (G.is_slash p.kind) (G.regex m p here))
  walk m p a w here (set x ∷ cs) = walked_if (not (G.records x && w)) (with_moment (moment m a None) (walk (G.change x m) p a w here cs))
  walk m p a w here (reread ∷ cs) = with_moment (moment m a None) (walk m p (if G.is_slash p.kind then asked else a) w here cs)
  walk m p a w here (withdraw ∷ cs) = with_moment (moment m a None) (walk m p nothing w here cs)

  -- where no token was given
  abbrev pub walk_first : M → Bool → List ℕ → List (Counting S) → Option (Walked M K)
  walk_first m w here [] = None
  walk_first m w here (read ∷ cs) = walk_found m w cs (λ m2 t w2 there. walk m2 t nothing w2 there cs) (G.scan m here)
  walk_first m w here (set x ∷ cs) = walked_if (not (G.records x && w)) (with_moment (moment m nothing None) (walk_first (G.change x m) w here cs))
  walk_first m w here (reread ∷ cs) = with_moment (moment m nothing None) (walk_first m w here cs)
  walk_first m w here (withdraw ∷ cs) = with_moment (moment m nothing None) (walk_first m w here cs)

  -- what was walked is a clean run
  abbrev pub IsClean : M → Bool → List ℕ → List (Counting S) → Walked M K → Type 0
  IsClean m w here cs x = (d : Clean G m first nothing w here cs x.kept) × (moments G d ≡ x.moments)
