-- The lexer's grammar, as clean runs see it.
use Rattle.std.specs.Prelude.{Bool, false, List, [], ◌∷◌, Option, Some, None}
use Rattle.clean_runs.specs.Grammar.{Counting, Grammar, read, set, reread, withdraw}
use Rattle.clean_runs.specs.Parts as parts
use Rattle.clean_runs.specs.Parts.{Parts, PartLaws, Role, grammar}
use Rattle.ecma_joining.specs.Texts.{text_at}
use Rattle.ecma_reads.specs.Locality.{ends_template}
use Rattle.ecma_reads.specs.Shebangs.{opens_shebang}
use Rattle.ecma_state.specs.Mode.{is_tpl_element}
use Rattle.ecma_state.specs.State.{is_shebang, is_slash}
use Rattle.ecma_state.specs.Transition.{tpl_on_top}
use Rattle.ecma_state.specs.declared.step.Step.{Step}
use Rattle.ecma_state.specs.declared.step.Step.TheVariants.{Read, SetCtx, SetExprAllowed, SetContexts, PopContext, Reread, Withdraw, Save, Back, TakeErrors}
use Rattle.ecma_syntax.specs.declared.context.Context.{Context}
use Rattle.ecma_token.specs.Kinds.{kind_of}
use Rattle.ecma_token.specs.View.{TokenView}
use Rattle.ecma_token.specs.declared.kind.TokenKind.{TokenKind}
use Rattle.ecma_token.specs.declared.kind.TokenKind.TheVariants.{BackQuote, RBrace, RParen, Shebang, Template}
use Rattle.ecma_parts.specs.BareReads.{bare_again, bare_mark, bare_shebang, bare_text, code}
use Rattle.ecma_parts.specs.Bearing.{Bearing, behind_kind}

-- what may stand behind a token of a kind
abbrev pub role_of : TokenKind → Role
role_of Template = parts.Text
role_of BackQuote = parts.Opener
role_of RBrace = parts.Opener
role_of RParen = parts.Opener
role_of Shebang = parts.Line
role_of kind = parts.Plain

abbrev pub was_shebang : Option TokenKind → Bool
was_shebang None = false
was_shebang (Some kind) = is_shebang kind

-- Steps

-- what a plain step may change besides reading
pub data Change : Type 0 where
  InContext : Context → Change
  Allowing : Bool → Change
  Nothing : Change

abbrev pub changed : Change → Bearing → Bearing
changed (InContext context) b = record b { context = context }
changed (Allowing allowed) b = record b { expr_allowed = allowed }
changed Nothing b = b

-- what waits is recorded in module code
abbrev pub records_waiting : Change → Bool
records_waiting (InContext context) = context.«module»
records_waiting (Allowing allowed) = false
records_waiting Nothing = false

-- a step as a clean run sees it; contexts are set by none that is plain
abbrev pub step_as : Step → Counting Change
step_as Read = read
step_as (SetCtx context) = set (InContext context)
step_as (SetExprAllowed allowed) = set (Allowing allowed)
step_as (SetContexts contexts) = set Nothing
step_as PopContext = set Nothing
step_as Reread = reread
step_as Withdraw = withdraw
step_as Save = set Nothing
step_as (Back n) = set Nothing
step_as TakeErrors = set Nothing

abbrev pub steps_as : List Step → List (Counting Change)
steps_as [] = []
steps_as (step ∷ steps) = step_as step ∷ steps_as steps

-- The grammar

abbrev pub lexer_parts : Parts Bearing Change TokenView
lexer_parts =
    record {
      role = λ token. role_of (kind_of token);
      is_slash = λ token. is_slash (kind_of token);
      is_start = λ b. b.shebang_allowed;
      in_text = λ b. tpl_on_top b.contexts;
      was_text = λ b. is_tpl_element b.previous;
      was_line = λ b. was_shebang b.previous;
      after = λ b t. behind_kind b (kind_of t.kind) t.flag;
      change = changed;
      records = records_waiting;
      code = code;
      regex = bare_again;
      closes = ends_template;
      closing = bare_mark;
      text_at = text_at;
      text = bare_text;
      begins_shebang = opens_shebang;
      shebang = bare_shebang;
    }

abbrev pub lexer_grammar : Grammar Bearing Change TokenView
lexer_grammar = grammar lexer_parts

-- Its parts keep the laws of parts.
abbrev pub PartsKeep : Type 1
PartsKeep = PartLaws Bearing Change TokenView lexer_parts
