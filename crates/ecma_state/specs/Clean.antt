-- Clean runs: lists of plain steps that take no error, end, and leave nothing wrong.
use Rattle.std.specs.Prelude.{Bool, true, false, not, ◌&&◌, List, [], ◌∷◌, is_some}
use Rattle.std.specs.List.{list_all}
use Rattle.ecma_place.specs.Cursor.{Cursor}
use Rattle.ecma_state.specs.Counting.{counting}
use Rattle.ecma_state.specs.Run.{act_on, session, start_of}
use Rattle.ecma_state.specs.Session.{Past, Next, Again, AtEnd, Session, has_ended, kept_back}
use Rattle.ecma_state.specs.State.{is_error}
use Rattle.ecma_state.specs.TokenAt.{is_empty}
use Rattle.ecma_state.specs.declared.settings.Settings.{Settings}
use Rattle.ecma_state.specs.declared.step.Step.{Step}
use Rattle.ecma_state.specs.declared.step.Step.TheVariants.{Read, SetCtx, SetExprAllowed, SetContexts, PopContext, Reread, Withdraw, Save, Back, TakeErrors}
use Rattle.ecma_token.specs.Kinds.{kind_of}

-- the newest answer was read again
abbrev pub was_again : Past → Bool
was_again [] = false
was_again (Next t ∷ past) = false
was_again (Again t ∷ past) = true
was_again (AtEnd flag ∷ past) = false

-- A step that counts is plain: the contexts are the run's own, errors are not ignored, and while a slash is read again at
-- most one `Read` stands, whose answer is then the newest.
abbrev pub is_plain_step : Session → Step → Bool
is_plain_step s Read = not (is_some s.reread && was_again s.past)
is_plain_step s (SetCtx context) = not context.ignore_error
is_plain_step s (SetExprAllowed allowed) = true
is_plain_step s (SetContexts contexts) = false
is_plain_step s PopContext = false
is_plain_step s Reread = true
is_plain_step s Withdraw = true
is_plain_step s Save = true
is_plain_step s (Back save) = true
is_plain_step s TakeErrors = true

-- no error is taken
abbrev pub takes_none : Session → Step → Bool
takes_none s Read = true
takes_none s (SetCtx context) = true
takes_none s (SetExprAllowed allowed) = true
takes_none s (SetContexts contexts) = true
takes_none s PopContext = true
takes_none s Reread = true
takes_none s Withdraw = true
takes_none s Save = true
takes_none s (Back save) = true
takes_none s TakeErrors = is_empty s.errors.recorded

-- each step holds in the session before it
abbrev pub each_step : (Session → Step → Bool) → Session → List Step → Bool
each_step holds s [] = true
each_step holds s (step ∷ steps) = holds s step && each_step holds (act_on s step) steps

-- the end was answered, no kept token is an error, and none is recorded
abbrev pub ends_clean : Session → Bool
ends_clean s = has_ended s.past && (list_all (λ t. not (is_error (kind_of t.token))) (kept_back s.past) && is_empty s.errors.recorded)

abbrev pub is_clean : Settings → Cursor → List Step → Bool
is_clean settings input steps =
    each_step is_plain_step (start_of settings input) (counting steps)
    && (each_step takes_none (start_of settings input) (counting steps) && ends_clean (session settings input steps))
