use Rattle.std.proofs.Common.{refl}
use Rattle.ecma_state.specs.Run.{start_of}
use Rattle.replay_model.proofs.ReplayLemmas.{start_follows}
use Rattle.replay_model.proofs.runner.Runner.new.Goals as goal

pub returns : goal.returns
returns c =
    start_follows (start_of c.args.settings.now c.args.input) _ (c.new.ensures (start_of c.args.settings.now c.args.input) c.with_settings-lexer.ensures refl) c.new-2.ensures.items c.new-3.ensures.items
