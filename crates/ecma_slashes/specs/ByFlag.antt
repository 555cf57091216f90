-- The slashes before which an expression is allowed, by the lexer's own flag, are read again as regular expressions.
use Rattle.std.specs.Prelude.{List, Option}
use Rattle.ecma_place.specs.Cursor.{Cursor}
use Rattle.ecma_syntax.specs.declared.context.Context.{Context}
use Rattle.ecma_token.specs.View.{SpannedView}
use Rattle.ecma_state.specs.Session.{LexerState, Session}
use Rattle.ecma_state.specs.declared.settings.Settings.{Settings}
use Rattle.ecma_state.specs.declared.step.Step.{Step}
use Rattle.ecma_slashes.specs.Rereads.{ReadsBy, by_flag, steps_to_end_by, text_steps_by}

-- from a session on this was found, and a lexer shows what the steps come to
abbrev pub ReadsByFlag : Session → Option SpannedView → LexerState → Type 0
ReadsByFlag = ReadsBy by_flag

-- the steps by which a session is read to the end
abbrev pub steps_to_end : Session → List Step
steps_to_end = steps_to_end_by by_flag

-- the steps by which a text is read to the end in a context
abbrev pub text_steps : Settings → Context → Cursor → List Step
text_steps = text_steps_by by_flag
