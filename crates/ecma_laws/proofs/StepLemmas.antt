-- Reads alone move the cursor and answer.
use Rattle.std.proofs.Common.{List, [], ◌∷◌, Option, Some, None}
use Rattle.std.specs.Prelude.{fold}
use Rattle.ecma_place.specs.Cursor.{Cursor}
use Rattle.ecma_place.specs.declared.place.BytePos.{BytePos}
use Rattle.ecma_state.specs.Contexts.{Contexts}
use Rattle.ecma_state.specs.Run.{act_on, popped_from, reread_from}
use Rattle.ecma_state.specs.Session.{Past, Session, seen_of}
use Rattle.ecma_state.specs.State.{last_slash}
use Rattle.ecma_state.specs.declared.step.Step.{Step}
use Rattle.ecma_state.specs.declared.step.Step.TheVariants.{Read, SetCtx, SetExprAllowed, SetContexts, PopContext, Reread, Withdraw, Save, Back, TakeErrors}

-- what is said of a cursor and of answers, and a session of which it holds
abbrev pub Holds : (Cursor → Past → Type 0) → Session → Type 0
Holds P s = P s.input s.past

popped-holds : (P : Cursor → Past → Type 0) (s : Session) (contexts : Contexts) → Holds P s → Holds P (popped_from s contexts).after
popped-holds P s [] h = h
popped-holds P s (top ∷ below) h = h

reread-holds : (P : Cursor → Past → Type 0) (s : Session) (slash : Option BytePos) → Holds P s → Holds P (reread_from s slash).after
reread-holds P s None h = h
reread-holds P s (Some p) h = h

step-holds : (P : Cursor → Past → Type 0) → ((s : Session) → Holds P s → Holds P (act_on s Read)) → (s : Session) (step : Step) → Holds P s → Holds P (act_on s step)
step-holds P read s Read h = read s h
step-holds P read s (SetCtx context) h = h
step-holds P read s (SetExprAllowed allowed) h = h
step-holds P read s (SetContexts contexts) h = h
step-holds P read s PopContext h = popped-holds P s s.contexts h
step-holds P read s Reread h = reread-holds P s (last_slash (seen_of s.past)) h
step-holds P read s Withdraw h = h
step-holds P read s TakeErrors h = h
step-holds P read s Save h = h
step-holds P read s (Back n) h = h

-- what each read keeps, each list of steps keeps
pub fold-holds : (P : Cursor → Past → Type 0) → ((s : Session) → Holds P s → Holds P (act_on s Read)) → (s : Session) (steps : List Step) → Holds P s → Holds P (fold act_on s steps)
fold-holds P read s [] h = h
fold-holds P read s (step ∷ steps) h = fold-holds P read (act_on s step) steps (step-holds P read s step h)
