use Rattle.std.proofs.Common.{◌∙◌, ap, sym, map, string_bytes}
use Rattle.std.specs.Prelude.{option_map}
use Rattle.ecma_program.specs.Command.{request_view}
use Rattle.ecma_stdio.proofs.Halting.{some_input, halts_reading, halts_refused}
use Rattle.ecma_program.proofs.Replies.{halts_at_words}
use Rattle.ecma_program.proofs.program.reply.Goals as goal

pub returns-in_default-clause-made : goal.returns-in_default-clause-made
returns-in_default-clause-made g c =
    halts_at_words (g.R.Read.remaining c.args.reader.now) (map string_bytes c.args.words.now) (sym (ap (option_map request_view) c.in_default.is) ∙ c.in_ok-request.ensures)

pub returns-in_err-input-clause-made : goal.returns-in_err-input-clause-made
returns-in_err-input-clause-made g c =
    (_, some_input _, halts_reading _ _ _ _ c.from_residual-in_err-input.ensures.1 c.in_err-input.ensures.halts)

pub returns-in_err-request-clause-made : goal.returns-in_err-request-clause-made
returns-in_err-request-clause-made g c =
    (_, some_input _, halts_refused _ _ _ c.from_residual.ensures.1)
