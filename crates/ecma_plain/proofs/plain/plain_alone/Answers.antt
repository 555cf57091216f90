use Rattle.std.proofs.Common.{Some, ap, sym, ◌∙◌}
use Rattle.ecma_place.specs.Cursor.{passed, rest}
use Rattle.ecma_place.proofs.MoveLemmas.{place-passed-le}
use Rattle.ecma_state.specs.Mode.{type_mode}
use Rattle.ecma_plain.proofs.AloneLemmas.{alone-found, alone-opens, one-first}
use Rattle.ecma_plain.proofs.PlainLemmas.{plain-of-punctuator}
use Rattle.ecma_plain.proofs.plain.plain_alone.Goals as goal

pub new-span-requires : goal.new-span-requires
new-span-requires c = rw (c.cur_pos-start.ensures, c.cur_pos.ensures) (place-passed-le c.args.input.now c.bump.new.self 1 c.bump.ensures)

pub returns-clause-token : goal.returns-clause-token
returns-clause-token c = λ mode code.
    let old = c.args.input.now in
    let first = c.requires.first in
    let one = one-first (rest old) c.args.gap.next first in
    let other = alone-opens (rest old) c.args.gap.next c.args.kind mode c.args.gap.line_break first c.requires.spelled c.requires.alone code in
    let found = alone-found (rest old) c.args.gap.next c.args.kind (type_mode mode) first c.requires.spelled c.requires.alone in
    plain-of-punctuator mode old c.bump.new.self _ c.token.result c.args.gap.line_break c.new-span.result _ _ other found (ap Some c.token.ensures)
    (c.bump.ensures ∙ ap (λ n. passed n old) (sym one)) c.cur_pos-start.ensures c.cur_pos.ensures c.new-span.ensures
