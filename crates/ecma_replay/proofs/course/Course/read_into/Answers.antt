use Rattle.std.proofs.Common.{refl}
use Rattle.ecma_replay.specs.Playing.{answer_of}
use Rattle.ecma_replay.proofs.ReplayLemmas.{read_responds}
use Rattle.ecma_replay.proofs.course.Course.read_into.Goals as goal

pub returns : goal.returns
returns c =
    read_responds c.args.self.now _ _ c.read_into.result (answer_of c.read_into.new.slot) c.self.view_is refl c.read_into.ensures.grows c.read_into.ensures.acts
