-- Errors with where they come from, in order of place.
use Rattle.std.specs.Prelude.{◌≡◌, ℕ, ◌==◌, ◌++◌, List, codes, filter, map}
use Rattle.std.specs.List.Sorted.{IsNonDecreasingBy}
use Rattle.ecma_token.specs.View.{ErrorView, error_view}
use Rattle.ecma_faults.specs.declared.found.Found.{Found}
use Rattle.ecma_faults.specs.declared.found.Origin.{Origin}
use Rattle.ecma_faults.specs.declared.found.Origin.TheVariants.{Token, Recorded, Waiting}

abbrev pub origin_name : Origin → List ℕ
origin_name Token = codes "token"
origin_name Recorded = codes "recorded"
origin_name Waiting = codes "waiting"

-- an error as callers see it
pub record FoundView : Type 0 where
  pub origin : Origin
  pub error : ErrorView

abbrev pub seen : Origin → ErrorView → FoundView
seen origin error = record { origin = origin; error = error }

abbrev pub view : Found → FoundView
view found = seen found.origin (error_view found.error)

-- errors that come from there
abbrev pub views_of : Origin → List ErrorView → List FoundView
views_of origin errors = map (seen origin) errors

-- those of a text: tokens, then those that were recorded, then those that wait
abbrev pub all_of : List ErrorView → List ErrorView → List ErrorView → List FoundView
all_of tokens recorded waiting = views_of Token tokens ++ (views_of Recorded recorded ++ views_of Waiting waiting)

abbrev pub place_of : FoundView → ℕ
place_of found = found.error.span.lo.0

-- those that begin at a place
abbrev pub beginning_at : ℕ → List FoundView → List FoundView
beginning_at place found = filter (λ f. place_of f == place) found

-- the same errors in order of place, and those that begin at one place in the order that they had
pub record IsByPlace (found ordered : List FoundView) : Type 0 where
  pub order : IsNonDecreasingBy place_of ordered
  pub same : (place : ℕ) → beginning_at place ordered ≡ beginning_at place found
