-- What is answered to the words and the input, where memory is ample.
use Rattle.std.specs.Prelude.{ℕ, List, Option, Some, None, Result, Ok, Err}
use Rattle.ecma_program.specs.declared.command.Command.{Command}
use Rattle.ecma_program.specs.declared.command.Command.TheVariants.{Tokens, Errors, Comments, Canon, Classes}
use Rattle.ecma_options.specs.declared.options.Options.{Options}
use Rattle.ecma_stdio.specs.declared.fault.Fault.{Fault}
use Rattle.ecma_stdio.specs.declared.fault.Fault.TheVariants.{BadWords}
use Rattle.ecma_stdio.specs.Faults.{text_reply}
use Rattle.ecma_program.specs.CanonText.{canon_text}
use Rattle.ecma_program.specs.ClassLines.{classes_text}
use Rattle.ecma_program.specs.Command.{Asked, request_of}
use Rattle.ecma_program.specs.CommentLines.{comments_text}
use Rattle.ecma_program.specs.ErrorLines.{errors_text}
use Rattle.ecma_program.specs.Lines.{tokens_text}
use Rattle.ecma_program.specs.Rereads.{unless_no_slash}

-- what is written for a text, or what is wrong with it
abbrev pub command_text : Command → Options → List ℕ → List ℕ → Result (List ℕ) Fault
command_text Tokens options rereads bytes = unless_no_slash (tokens_text options rereads bytes)
command_text Errors options rereads bytes = unless_no_slash (errors_text options rereads bytes)
command_text Comments options rereads bytes = unless_no_slash (comments_text options rereads bytes)
command_text Canon options rereads bytes = canon_text options rereads bytes
command_text Classes options rereads bytes = unless_no_slash (classes_text options rereads bytes)

abbrev pub program_text : Asked → List ℕ → Result (List ℕ) Fault
program_text request bytes = command_text request.command request.options request.rereads bytes

-- the text of the input is judged before the tokens that are read again
abbrev pub reply_with : Asked → Result (List ℕ) Fault → Result (List ℕ) Fault
reply_with request (Ok text) = program_text request text
reply_with request (Err fault) = Err fault

abbrev pub reply_to : Option Asked → List ℕ → Result (List ℕ) Fault
reply_to None input = Err BadWords
reply_to (Some request) input = reply_with request (text_reply input)

-- the words are judged before the input
abbrev pub reply_of : List (List ℕ) → List ℕ → Result (List ℕ) Fault
reply_of words input = reply_to (request_of words) input
