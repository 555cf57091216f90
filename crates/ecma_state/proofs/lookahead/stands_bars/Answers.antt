use Rattle.std.proofs.Common.{sym, ◌∙◌}
use Rattle.std.proofs.lemmas.Bool.{ne_eqb}
use Rattle.ecma_place.specs.Cursor.{rest}
use Rattle.ecma_grammar.proofs.SignLemmas.{bars-seen}
use Rattle.ecma_state.proofs.LookaheadLemmas.{no-bars}
use Rattle.ecma_state.proofs.lookahead.stands_bars.Goals as goal

pub returns-then-c-eq124 : goal.returns-then-c-eq124
returns-then-c-eq124 c = c.is_str.ensures ∙ bars-seen (rest c.args.input.now)

pub returns-else-c-eq124 : goal.returns-else-c-eq124
returns-else-c-eq124 c =
    let other = ne_eqb _ _ c.if-c-eq124.false in
    other ∙ sym (no-bars (rest c.args.input.now) c.args.c c.requires other)
