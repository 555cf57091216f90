-- What holds of the clean runs of every grammar that keeps the laws of `Laws`.
use Rattle.std.specs.Prelude.{ℕ, Bool, List, ◌≡◌}
use Rattle.clean_runs.specs.Grammar.{Token, Counting, Standing, first, Grammar, Laws, WaitsWithin}
use Rattle.clean_runs.specs.Clean.{Clean, canon}
use Rattle.clean_runs.specs.Moments.{Twin}
use Rattle.clean_runs.specs.Parts.{Parts, PartLaws, grammar}

-- The canonical text of what a clean run keeps is read cleanly by the same steps, to the same tokens and through the same
-- moments, also where less waits.
abbrev pub CanonicalIsAlike : Type 1
CanonicalIsAlike =
    (M S K : Type 0) (G : Grammar M S K) (L : Laws M S K G) (m : M) (a : Standing) (w w2 : Bool) (here : List ℕ) (cs : List (Counting S)) (ks : List (Token K)) → WaitsWithin w2 w
    → L.Inv first m here → (d : Clean G m first a w here cs ks) → Twin G w2 (canon G ks) d

-- The steps and the text of a clean run decide what it keeps.
abbrev pub KeptIsDetermined : Type 1
KeptIsDetermined =
    (M S K : Type 0) (G : Grammar M S K) (m : M) (a : Standing) (w w2 : Bool) (here : List ℕ) (cs : List (Counting S)) (ks ks2 : List (Token K)) → Clean G m first a w here cs ks
    → Clean G m first a w2 here cs ks2 → ks ≡ ks2

-- Two clean runs by the same steps whose kept tokens have one canonical text keep the same tokens.
abbrev pub CanonicalIsShared : Type 1
CanonicalIsShared =
    (M S K : Type 0) (G : Grammar M S K) (L : Laws M S K G) (m : M) (a : Standing) (w w2 : Bool) (here here2 : List ℕ) (cs : List (Counting S)) (ks ks2 : List (Token K)) → L.Inv first m here
    → L.Inv first m here2 → Clean G m first a w here cs ks → Clean G m first a w2 here2 cs ks2 → canon G ks ≡ canon G ks2 → ks ≡ ks2

-- A grammar made of parts that keep their laws keeps those that canonical texts need.
abbrev pub PartsKeepLaws : Type 1
PartsKeepLaws = (M S K : Type 0) (P : Parts M S K) → PartLaws M S K P → Laws M S K (grammar P)
