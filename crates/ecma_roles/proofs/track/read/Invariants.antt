use Rattle.std.proofs.Common.{◌+◌, ◌*◌, ◌≤◌, Some}
use Rattle.ecma_role_tracks.specs.Track.{read_times, reading, track}
use Rattle.ecma_role_tracks.proofs.TrackLemmas.{LeadsTo}
use Rattle.ecma_roles.proofs.track.read.Given as goal

abbrev pub invariant-reads : goal.invariant-reads
invariant-reads l =
    LeadsTo l.read l.part.had_line_break (track l.state l.nest.nest l.typescript) l.kind
    (read_times 8 l.part.had_line_break (reading (track l.fn.state l.fn.nest.nest l.typescript) (Some l.part.kind)))
    × (16 ≤ l.nest.room + 2 * l.read)
