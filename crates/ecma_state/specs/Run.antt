-- What a list of steps answers, and where it comes to.
use Rattle.std.specs.Prelude.{Bool, true, false, List, [], ◌∷◌, ◌++◌, Option, Some, None, fold, is_none, is_some, slice_get}
use Rattle.ecma_place.specs.Cursor.{Cursor, index_of, moved_to, place, rest}
use Rattle.ecma_place.specs.declared.comment.Comment.{Comment}
use Rattle.ecma_place.specs.declared.place.BytePos.{BytePos}
use Rattle.ecma_token.specs.View.{SpannedView, ErrorView}
use Rattle.ecma_syntax.specs.Defaults.{no_context}
use Rattle.ecma_syntax.specs.declared.context.Context.{Context}
use Rattle.ecma_comments.specs.Attachment.{attachment}
use Rattle.ecma_contexts.specs.Contexts.{Contexts, innermost}
use Rattle.ecma_state.specs.Counting.{Counted, count_step, counting, none_yet}
use Rattle.ecma_state.specs.Disposition.{Recorded, disposed, of_module_mode, no_errors, none_recorded, with_faults, with_context}
use Rattle.ecma_comments.specs.declared.comments_buffer.BufferedComment.{BufferedComment}
use Rattle.ecma_state.specs.declared.kept.Kept.{Kept}
use Rattle.ecma_state.specs.declared.mode.Mode.{Mode}
use Rattle.ecma_state.specs.declared.settings.Settings.{Settings}
use Rattle.ecma_state.specs.declared.step.Step.{Step}
use Rattle.ecma_state.specs.declared.step.Step.TheVariants.{Read, SetCtx, SetExprAllowed, SetContexts, PopContext, Reread, Withdraw, Save, Back, TakeErrors}
use Rattle.ecma_contexts.specs.declared.token_context.TokenContext.TheVariants.{BraceStmt}
use Rattle.ecma_state.specs.Reading.{Reading, is_free, is_free_again, reading, reading_again}
use Rattle.ecma_state.specs.Session.{Given, Next, Again, AtEnd, LexerState, Session, kept_in, state_value, seen_of, state_of}
use Rattle.ecma_state.specs.State.{StateValue, around_of, behind_answer, last_slash, opened_by, previous, turned_by}

-- what the next read goes by besides the text
abbrev pub mode_of : LexerState → Mode
mode_of l =
    record {
      settings = l.settings;
      context = l.context;
      top = innermost l.state.contexts;
      first = l.state.seen.first;
      shebang_allowed = is_none l.state.seen.last;
      previous = previous l.state.seen;
      opened = l.state.opened;
    }

-- the cursor at a place of its text
abbrev pub at_place : BytePos → Cursor → Cursor
at_place p input = moved_to (index_of input p.0) input

abbrev pub reading_from : Option BytePos → LexerState → Reading
reading_from None l = reading (mode_of l) l.input
reading_from (Some slash) l = reading_again l.state.seen.flag (at_place slash l.input)

-- what the next read finds: from the slash on that is read again, while there is one
abbrev pub reading_of : LexerState → Reading
reading_of l = reading_from l.reread l

-- the next read does not allocate where fewer than 128 contexts stand
abbrev pub is_free_from : Option BytePos → LexerState → Bool
is_free_from None l = is_free (mode_of l) l.input
is_free_from (Some slash) l = is_free_again (rest (at_place slash l.input))

abbrev pub is_free_read : LexerState → Bool
is_free_read l = is_free_from l.reread l

abbrev token_given : Bool → SpannedView → Given
token_given true t = Again t
token_given false t = Next t

-- an answer of a read, by whether it read again
abbrev pub given_in : Bool → Bool → Option SpannedView → Given
given_in again flag None = AtEnd flag
given_in again flag (Some t) = token_given again t

abbrev pub given_of : Bool → Reading → Given
given_of again r = given_in again r.end_flag r.found

-- the comments behind a read that answers this: those that it found are attached
abbrev pub comments_behind : List BufferedComment → StateValue → Option Kept → List (Comment × Bool) → List BufferedComment
comments_behind comments state answer found = comments ++ attachment (around_of state answer) found

-- the lexer behind a read
abbrev pub state_behind : LexerState → Reading → LexerState
state_behind l r =
    record l {
      input = r.input;
      state = behind_answer l.state r.end_flag (kept_in r.found);
      errors = with_faults l.context l.errors r.faults;
      comments = comments_behind l.comments l.state (kept_in r.found) r.comments;
    }

-- the lexer in a context, and with the recorded errors taken
abbrev pub state_in : Context → LexerState → LexerState
state_in context l = record l { context = context; errors = with_context context l.errors }

-- the lexer with one more error
abbrev pub state_with_error : ErrorView → LexerState → LexerState
state_with_error e l = record l { errors = disposed l.errors e Recorded }

abbrev pub state_with_module_mode_error : ErrorView → LexerState → LexerState
state_with_module_mode_error e l = record l { errors = disposed l.errors e (of_module_mode l.context) }

abbrev pub state_without_errors : LexerState → LexerState
state_without_errors l = record l { errors = none_recorded l.errors }

-- the lexer where an expression may begin or not, and with other contexts
abbrev pub state_allowing : Bool → LexerState → LexerState
state_allowing expr_allowed l = record l { state = record l.state { expr_allowed = expr_allowed } }

abbrev pub state_with_contexts : Contexts → LexerState → LexerState
state_with_contexts contexts l = record l { state = record l.state { contexts = contexts } }

-- the lexer that reads again from a slash, or no longer does
abbrev pub state_rereading : Option BytePos → LexerState → LexerState
state_rereading slash l = record l { reread = slash }

-- the lexer with other comments
abbrev pub state_with_comments : List BufferedComment → LexerState → LexerState
state_with_comments comments l = record l { comments = comments }

-- what a step answers
pub data Answer : Type 0 where
  Token' : SpannedView → Answer
  End : Answer
  -- the step was taken, and there is nothing to tell
  Done : Answer
  Errors' : List ErrorView → Answer
  -- the last answer was no slash
  NoSlash : Answer
  -- there is no such save
  NoSave : Answer
  -- there is no context
  NoContext : Answer

abbrev pub answer_in : Option SpannedView → Answer
answer_in None = End
answer_in (Some t) = Token' t

-- where a step leads, and what it answers
pub record Acted : Type 0 where
  pub after : Session
  pub answer : Answer

abbrev pub acted_on : Session → Reading → Acted
acted_on s r =
    record {
      after =
          record s {
            input = r.input;
            contexts = (turned_by (state_value s) (kept_in r.found)).contexts;
            expr_allowed = (turned_by (state_value s) (kept_in r.found)).expr_allowed;
            opened = opened_by (state_value s) (kept_in r.found);
            errors = with_faults s.context s.errors r.faults;
            comments = comments_behind s.comments (state_value s) (kept_in r.found) r.comments;
            past = given_of (is_some s.reread) r ∷ s.past;
          };
      answer = answer_in r.found;
    }

abbrev done : Session → Acted
done s = record { after = s; answer = Done }

abbrev pub reread_from : Session → Option BytePos → Acted
reread_from s (Some slash) = done (record s { reread = Some slash })
reread_from s None = record { after = s; answer = NoSlash }

abbrev pub popped_from : Session → Contexts → Acted
popped_from s [] = record { after = s; answer = NoContext }
popped_from s (top ∷ below) = done (record s { contexts = below })

-- one step that counts; saves and ways back change nothing by themselves
abbrev pub act : Session → Step → Acted
act s Read = acted_on s (reading_of (state_of s))
act s (SetCtx context) = done (record s { context = context; errors = with_context context s.errors })
act s (SetExprAllowed allowed) = done (record s { expr_allowed = allowed })
act s (SetContexts contexts) = done (record s { contexts = contexts })
act s PopContext = popped_from s s.contexts
act s Reread = reread_from s (last_slash (seen_of s.past))
act s Withdraw = done (record s { reread = None })
act s TakeErrors = record { after = record s { errors = none_recorded s.errors }; answer = Errors' s.errors.recorded }
act s Save = done s
act s (Back n) = done s

-- the session that begins at a cursor
abbrev pub start_of : Settings → Cursor → Session
start_of settings input =
    record {
      settings = settings;
      start = record { 0 = place input };
      input = input;
      context = no_context;
      contexts = BraceStmt ∷ [];
      expr_allowed = true;
      opened = record { 0 = place input };
      reread = None;
      errors = no_errors;
      comments = [];
      past = [];
    }

abbrev pub act_on : Session → Step → Session
act_on s step = (act s step).after

-- where counting steps lead from a session
abbrev pub act_all : Session → List Step → Session
act_all s steps = fold act_on s steps

-- where a list of steps comes to: where those that count lead
abbrev pub session : Settings → Cursor → List Step → Session
session settings input steps = act_all (start_of settings input) (counting steps)

abbrev pub back_answer : Option (List Step) → Answer
back_answer (Some steps) = Done
back_answer None = NoSave

-- what a step answers behind those that count so far
abbrev pub answer_behind : Session → Counted → Step → Answer
answer_behind begin c Save = Done
answer_behind begin c (Back n) = back_answer (slice_get c.saves n)
answer_behind begin c Read = (act (act_all begin c.steps) Read).answer
answer_behind begin c (SetCtx context) = (act (act_all begin c.steps) (SetCtx context)).answer
answer_behind begin c (SetExprAllowed allowed) = (act (act_all begin c.steps) (SetExprAllowed allowed)).answer
answer_behind begin c (SetContexts contexts) = (act (act_all begin c.steps) (SetContexts contexts)).answer
answer_behind begin c PopContext = (act (act_all begin c.steps) PopContext).answer
answer_behind begin c Reread = (act (act_all begin c.steps) Reread).answer
answer_behind begin c Withdraw = (act (act_all begin c.steps) Withdraw).answer
answer_behind begin c TakeErrors = (act (act_all begin c.steps) TakeErrors).answer

abbrev pub answers_behind : Session → Counted → List Step → List Answer
answers_behind begin c [] = []
answers_behind begin c (step ∷ steps) = answer_behind begin c step ∷ answers_behind begin (count_step c step) steps

-- what each step of a list answers
abbrev pub run : Settings → Cursor → List Step → List Answer
run settings input steps = answers_behind (start_of settings input) none_yet steps
