-- What going back to a checkpoint undoes: our own choice, as ECMA-262 reads a text once.
use Rattle.std.specs.Prelude.{◌≡◌, Bool, true, false, not, ◌&&◌, ◌||◌, List, [], ◌∷◌}
use Rattle.ecma_place.specs.Cursor.{IsWithin}
use Rattle.ecma_comments.specs.Buffers.{Begins}
use Rattle.ecma_state.specs.Run.{act_all, act_on}
use Rattle.ecma_state.specs.Session.{LexerState, Session, state_of}
use Rattle.ecma_state.specs.TokenAt.{is_empty}
use Rattle.ecma_state.specs.declared.step.Step.{Step}
use Rattle.ecma_state.specs.declared.step.Step.TheVariants.{Read, SetCtx, SetExprAllowed, SetContexts, PopContext, Reread, Withdraw, Save, Back, TakeErrors}
use Rattle.ecma_checkpoint.specs.Checkpoints.{GoesBack, checkpoint_of, rewound}

-- A lexer goes on from where another was: it is in the same text with the same settings, and its errors and comments begin
-- with those of the other.
pub record GoesOn (l m : LexerState) : Type 0 where
  pub settings : m.settings ≡ l.settings
  pub begin : m.input.start ≡ l.input.start
  pub text : m.input.text ≡ l.input.text
  pub start : m.state.start ≡ l.state.start
  pub recorded : Begins l.errors.recorded m.errors.recorded
  pub waiting : Begins l.errors.waiting m.errors.waiting
  pub comments : Begins l.comments m.comments

-- a step takes no error away: neither by taking those that were recorded, nor by recording such as wait
abbrev pub takes_none : Session → Step → Bool
takes_none s Read = true
takes_none s (SetCtx context) = not context.«module» || is_empty s.errors.waiting
takes_none s (SetExprAllowed allowed) = true
takes_none s (SetContexts contexts) = true
takes_none s PopContext = true
takes_none s Reread = true
takes_none s Withdraw = true
takes_none s TakeErrors = false
takes_none s Save = true
takes_none s (Back n) = true

-- none of these steps does
abbrev pub take_none : Session → List Step → Bool
take_none s [] = true
take_none s (step ∷ steps) = takes_none s step && take_none (act_on s step) steps

-- a lexer goes back to the checkpoint of where another was, and is then as that was
pub record GoesBackTo (l m : LexerState) : Type 0 where
  pub goes : GoesBack (checkpoint_of l) m
  pub undone : rewound (checkpoint_of l) m ≡ l

-- Laws

-- A lexer that goes on from where another was goes back to it: nothing is left of what came between, whatever that was.
abbrev pub RewindingUndoes : Type 0
RewindingUndoes = (l m : LexerState) → IsWithin l.input → GoesBack (checkpoint_of l) l → GoesOn l m → GoesBackTo l m

-- Steps that take no errors away go on from where they begin.
abbrev pub StepsGoOn : Type 0
StepsGoOn = (s : Session) (steps : List Step) → take_none s steps ≡ true → GoesOn (state_of s) (state_of (act_all s steps))

-- A lexer whose memory was refused goes back to where it was before.
abbrev pub RefusalIsUndone : Type 0
RefusalIsUndone = (l : LexerState) → IsWithin l.input → GoesBack (checkpoint_of l) l → GoesBackTo l (record l { refused = true })
