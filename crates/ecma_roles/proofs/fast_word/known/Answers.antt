use Rattle.ecma_roles.proofs.FastWordLemmas.{known_is_word, operand_takes, word_takes}
use Rattle.ecma_roles.proofs.fast_word.known.Goals as goal

pub returns-in-Property : goal.returns-in-Property
returns-in-Property c = rw c.in-Property.is (word_takes _ c.args.nest.now.nest c.args.had_line_break (known_is_word c.args.name))

pub returns-in-Operand : goal.returns-in-Operand
returns-in-Operand c = rw c.in-Operand.is (operand_takes _ c.args.nest.now.nest c.args.had_line_break (cc (c.is_operand.ensures, c.if-is_operand.true)))
