use Rattle.std.proofs.Common.{sym, ◌∙◌}
use Rattle.ecma_place.specs.Cursor.{rest}
use Rattle.ecma_number.specs.WrittenNumbers.{number_of}
use Rattle.ecma_number.proofs.Refusals.{next_refused}
use Rattle.ecma_number.proofs.number.refusals.next_refusal.Goals as goal

pub returns-clause-value : goal.returns-clause-value
returns-clause-value c = λ start behind.
    next_refused c.args.rule (number_of c.args.number.now) (rest c.args.input.now) start c.cur_pos-here.result.0 _ _ (sym c.is_followed_wrongly.ensures ∙ c.if-not-is_followed_wrongly.false)
    c.in_ok-error.ensures c.new.ensures (behind ∙ sym c.cur_pos-here.ensures)
