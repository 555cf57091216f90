use Rattle.ecma_name.proofs.WordReading.{plain-row}
use Rattle.ecma_name.proofs.word.eat_plain_kind.Goals as goal

pub returns-in-Some-clause-word : goal.returns-in-Some-clause-word
returns-in-Some-clause-word c = λ context. plain-row context c.args.input.now c.eat_short_kind.new.input c.in-Some.ensures.moved c.in-Some.ensures.plain
