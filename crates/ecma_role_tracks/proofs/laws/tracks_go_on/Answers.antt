use Rattle.ecma_role_tracks.proofs.TrackedLemmas.{tracked_append}
use Rattle.ecma_role_tracks.proofs.laws.tracks_go_on.Goals as goal

pub returns : goal.returns
returns c = tracked_append
