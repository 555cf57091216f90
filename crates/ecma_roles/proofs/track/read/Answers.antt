use Rattle.std.proofs.Common.{arith}
use Rattle.ecma_role_tracks.specs.Track.{track}
use Rattle.ecma_role_tracks.proofs.TrackLemmas.{read_again, read_done, read_out}
use Rattle.ecma_roles.proofs.track.read.Goals as goal

pub returns-in-Done : goal.returns-in-Done
returns-in-Done c = read_done c.reads.read c.args.part.had_line_break (track c.reads.state c.reads.nest.nest c.args.typescript) c.reads.kind c.in-Done.behind c.read_once.new.nest.nest _ c.reads-test.true c.reads.invariant.0 c.in-Done.ensures.nest

pub reads-preserved : goal.reads-preserved
reads-preserved c = (
  read_again c.reads.read c.args.part.had_line_break (track c.reads.state c.reads.nest.nest c.args.typescript) c.reads.kind c.in-Again.left c.in-Again.next c.read_once.new.nest.nest _ c.reads.invariant.0 c.in-Again.ensures.nest,
  omega (arith, c.reads.invariant.1, c.read_once.ensures.room),
)

pub returns : goal.returns
returns c = read_out c.reads.read c.args.part.had_line_break (track c.reads.state c.reads.nest.nest c.args.typescript) c.reads.kind _ (omega (arith, c.reads.auto.read-end, c.reads-test.false)) c.reads.invariant.0
