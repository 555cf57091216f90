-- Tracks of tokens, by their last ones
use Rattle.std.proofs.Common.{◌≡◌, ◌++◌, Bool, List, [], ◌∷◌}
use Rattle.std.proofs.lemmas.List.Sums as sums
use Rattle.ecma_role_table.specs.declared.part.Part.{Part}
use Rattle.ecma_role_tracks.specs.Track.{TrackView, first, stepped, track_of, tracked}

-- one token more is one step more
pub tracked_push : (t : TrackView) (parts : List Part) (part : Part) → tracked t (parts ++ (part ∷ [])) ≡ stepped (tracked t parts) part
tracked_push t parts part = sums.fold_push stepped t parts part

pub track_of_push : (typescript is_module : Bool) (parts : List Part) (part : Part) → track_of typescript is_module (parts ++ (part ∷ [])) ≡ stepped (track_of typescript is_module parts) part
track_of_push typescript is_module parts part = tracked_push (first typescript is_module) parts part

-- tokens behind tokens go on from the track of those
pub tracked_append : (t : TrackView) (xs ys : List Part) → tracked t (xs ++ ys) ≡ tracked (tracked t xs) ys
tracked_append t xs ys = sums.fold-append stepped t xs ys
