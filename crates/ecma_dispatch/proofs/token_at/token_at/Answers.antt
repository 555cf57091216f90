use Rattle.std.proofs.Common.{sym, ◌∙◌}
use Rattle.ecma_place.specs.Cursor.{rest}
use Rattle.ecma_state.proofs.LookaheadLemmas.{bars-open, opens-reader}
use Rattle.ecma_dispatch.proofs.token_at.token_at.Goals as goal

pub bars_at-requires : goal.bars_at-requires
bars_at-requires c = bars-open c.args.mode.now c.args.flag (rest c.args.input.now) (sym c.in-Bars.is ∙ c.at-lookahead.ensures)

pub plain_at-requires : goal.plain_at-requires
plain_at-requires c =
    record {
      first = c.requires.first;
      opened = c.requires.opened;
      opens = opens-reader c.args.mode.now c.args.flag (rest c.args.input.now) c.at-lookahead.result c.at-lookahead.ensures c.in_default.not-Bars;
    }
