use Rattle.std.proofs.Common.{sym, ◌∙◌}
use Rattle.ecma_name.proofs.WordReading.{plain-row}
use Rattle.ecma_name.proofs.word.eat_long_kind.Goals as goal

pub returns-clause-word : goal.returns-clause-word
returns-clause-word c = λ context. plain-row context c.args.input.now c.part_characters-text.new.input c.part_characters-text.ensures.moved (sym c.at_escape.ensures ∙ c.if-at_escape.false)
