-- What a lexer keeps of its answers, and what it goes by behind them.
use Rattle.std.specs.Prelude.{Bool, true, false, not, ◌&&◌, [], ◌∷◌, Option, Some, None, option_map, if◌then◌else◌}
use Rattle.ecma_place.specs.declared.place.BytePos.{BytePos}
use Rattle.ecma_token.specs.declared.kind.TokenKind.{TokenKind}
use Rattle.ecma_syntax.specs.declared.operator.AssignOp.TheVariants.{DivAssign}
use Rattle.ecma_syntax.specs.declared.operator.BinOpToken.TheVariants.{Div}
use Rattle.ecma_token.specs.declared.kind.TokenKind.TheVariants.{AssignOp, BackQuote, BinOp, Shebang, Error}
use Rattle.ecma_contexts.specs.Contexts.{Contexts}
use Rattle.ecma_contexts.specs.Transition.{Turned, tpl_on_top, transition, turned}
use Rattle.ecma_comments.specs.declared.attachment.Around.{Around}
use Rattle.ecma_state.specs.declared.kept.Kept.{Kept}
use Rattle.ecma_state.specs.declared.kept.Seen.{Seen}
use Rattle.ecma_contexts.specs.declared.token_context.TokenContext.TheVariants.{BraceStmt}
use Rattle.ecma_contexts.specs.declared.transition.Before.{Before}

-- What is kept of the answers

abbrev pub is_shebang : TokenKind → Bool
is_shebang Shebang = true
is_shebang _ = false

abbrev pub is_error : TokenKind → Bool
is_error Error = true
is_error _ = false

abbrev pub none_seen : Seen
none_seen = record { first = true; last = None; flag = false; ended = false }

-- the same behind one more answer: a token, or the end with the flag before it
abbrev pub seen_behind : Seen → Bool → Option Kept → Seen
seen_behind seen end_flag (Some t) = record { first = is_shebang t.kind && seen.first; last = Some t; flag = t.flag; ended = false }
seen_behind seen end_flag None = record { first = seen.first; last = seen.last; flag = end_flag; ended = true }

-- the kind of the token before
abbrev pub previous : Seen → Option TokenKind
previous seen = option_map (λ t. t.kind) seen.last

-- the token is `/` or `/=`
abbrev pub is_slash : TokenKind → Bool
is_slash (BinOp Div) = true
is_slash (AssignOp DivAssign) = true
is_slash _ = false

abbrev pub slash_in : Option Kept → Option BytePos
slash_in None = None
slash_in (Some t) = if is_slash t.kind then Some t.span.lo else None

-- where the slash stands that was answered last
abbrev pub last_slash : Seen → Option BytePos
last_slash seen = if seen.ended then None else slash_in seen.last

-- its flag, which is false where there is none
abbrev pub flag_of : Option Kept → Bool
flag_of None = false
flag_of (Some t) = t.flag

-- What the next read goes by

pub record StateValue : Type 0 where
  -- the innermost first
  pub contexts : Contexts
  -- whether an expression may begin
  pub expr_allowed : Bool
  -- where the text begins
  pub start : BytePos
  -- where the back quote stands that opened a template last; the start place where none did
  pub opened : BytePos
  pub seen : Seen

-- the state before the first read of a text that starts at a place
abbrev pub started : BytePos → StateValue
started start =
    record { contexts = BraceStmt ∷ []; expr_allowed = true; start = start; opened = start; seen = none_seen }

-- what the next token changes the contexts by
abbrev pub before_of : StateValue → Before
before_of s =
    record { expr_allowed = s.expr_allowed; previous = previous s.seen; previous_flag = flag_of s.seen.last }

abbrev pub end_in : BytePos → Option Kept → BytePos
end_in start None = start
end_in start (Some t) = t.span.hi

-- where the token before ends; the start place where there is none
abbrev pub end_of : StateValue → BytePos
end_of s = end_in s.start s.seen.last

-- the places that the comments of a read go by, which answers a token or the end
abbrev pub around_of : StateValue → Option Kept → Around
around_of s answer = record { start = s.start; end = end_of s; next = option_map (λ t. t.span.lo) answer }

-- the contexts behind an answer, and whether an expression may begin there: the end changes neither
abbrev pub turned_by : StateValue → Option Kept → Turned
turned_by s None = turned s.contexts s.expr_allowed
turned_by s (Some t) = transition (before_of s) s.contexts t.kind t.flag

abbrev pub opens_template : Contexts → TokenKind → Bool
opens_template contexts BackQuote = not (tpl_on_top contexts)
opens_template contexts _ = false

abbrev pub opened_by : StateValue → Option Kept → BytePos
opened_by s None = s.opened
opened_by s (Some t) = if opens_template s.contexts t.kind then t.span.lo else s.opened

-- the state behind an answer: a token, or the end with the flag before it
abbrev pub behind_answer : StateValue → Bool → Option Kept → StateValue
behind_answer s end_flag answer =
    record {
      contexts = (turned_by s answer).contexts;
      expr_allowed = (turned_by s answer).expr_allowed;
      start = s.start;
      opened = opened_by s answer;
      seen = seen_behind s.seen end_flag answer;
    }
