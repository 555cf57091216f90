use Rattle.std.proofs.Common.{ap, sym, ◌∙◌, take, true, false, not, encode_utf8_all}
use Rattle.ecma_place.specs.Character.{is_ident_part}
use Rattle.ecma_place.specs.Cursor.{rest}
use Rattle.ecma_place.proofs.RunLemmas.{text-passed}
use Rattle.ecma_grammar.proofs.Fronts.{length-take_while, take_while-front}
use Rattle.ecma_name.proofs.NameRuns.{parts-passed}
use Rattle.ecma_name.proofs.name.part_characters.Goals as goal
use Rattle.ecma_name.proofs.name.part_characters.Goals.{then-is_none, else-is_none}

pub returns-clause-moved : goal.returns-clause-moved
returns-clause-moved c =
    let said = rw c.cur_as_ascii.ensures at c.is_none.ensures in
    elim c.if-is_none.branch [
      | then-is_none w ↦ parts-passed c.args.input.now c.bump_bytes.new.self c.if-is_none.input c.run_bytes.result true c.run_bytes.ensures.run c.bump_bytes.ensures (said ∙ ap not w.if-is_none.true) (w.input-is ∙ w.pass_part_characters.ensures)
      | else-is_none w ↦ parts-passed c.args.input.now c.bump_bytes.new.self c.if-is_none.input c.run_bytes.result false c.run_bytes.ensures.run c.bump_bytes.ensures (said ∙ ap not w.if-is_none.false) w.input-is
    ]

pub returns-clause-text : goal.returns-clause-text
returns-clause-text c = c.slice.ensures ∙ text-passed c.args.input.now c.if-is_none.input _ _ _ (returns-clause-moved c) c.cur_pos-start.ensures c.cur_pos.ensures
    ∙ ap encode_utf8_all (ap (λ n. take n (rest c.args.input.now)) (sym (length-take_while is_ident_part (rest c.args.input.now))) ∙ take_while-front is_ident_part (rest c.args.input.now))
