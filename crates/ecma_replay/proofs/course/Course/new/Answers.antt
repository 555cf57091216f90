use Rattle.std.proofs.Common.{refl}
use Rattle.ecma_state.specs.Run.{start_of}
use Rattle.ecma_replay.proofs.ReplayLemmas.{start_stands}
use Rattle.ecma_replay.proofs.course.Course.new.Goals as goal

pub returns : goal.returns
returns c =
    start_stands (start_of c.args.settings.now c.args.input) _ (c.new.ensures _ (start_of c.args.settings.now c.args.input) c.with_settings-lexer.ensures refl) c.new-3.ensures.items
