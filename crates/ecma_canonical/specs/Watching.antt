-- What is told of the steps of a run by what they answered.
use Rattle.std.specs.Prelude.{Bool, true, false, not, ◌&&◌, ◌||◌, List, [], ◌∷◌, ◌++◌, Option, Some, None, is_some, map, slice_get}
use Rattle.ecma_joined.specs.Clean.{each_step, is_plain_step, takes_none, was_again}
use Rattle.ecma_canonical.specs.declared.watch.Watch.{Watch}
use Rattle.ecma_state.specs.Counting.{Counted}
use Rattle.ecma_state.specs.Run.{Answer, Token', End, Done, Errors', NoSlash, NoSave, NoContext, act_all}
use Rattle.ecma_state.specs.Session.{Session}
use Rattle.ecma_state.specs.TokenAt.{is_empty}
use Rattle.ecma_state.specs.declared.step.Step.{Step}
use Rattle.ecma_state.specs.declared.step.Step.TheVariants.{Read, SetCtx, SetExprAllowed, SetContexts, PopContext, Reread, Withdraw, Save, Back, TakeErrors}

-- what holds behind steps that count
abbrev pub watch_of : Session → List Step → Watch
watch_of begin steps =
    record {
      is_clean = each_step is_plain_step begin steps && each_step takes_none begin steps;
      rereads = is_some (act_all begin steps).reread;
      was_again = was_again (act_all begin steps).past;
    }

-- The same by the answers alone

abbrev pub none_watched : Watch
none_watched = record { is_clean = true; rereads = false; was_again = false }

abbrev pub is_token : Answer → Bool
is_token (Token' token) = true
is_token End = false
is_token Done = false
is_token (Errors' errors) = false
is_token NoSlash = false
is_token NoSave = false
is_token NoContext = false

abbrev pub is_done : Answer → Bool
is_done (Token' token) = false
is_done End = false
is_done Done = true
is_done (Errors' errors) = false
is_done NoSlash = false
is_done NoSave = false
is_done NoContext = false

-- it tells of no error that was taken
abbrev pub took_none : Answer → Bool
took_none (Token' token) = true
took_none End = true
took_none Done = true
took_none (Errors' errors) = is_empty errors
took_none NoSlash = true
took_none NoSave = true
took_none NoContext = true

-- while a slash is read again, at most one read is plain
abbrev pub behind_read : Watch → Answer → Watch
behind_read w answer =
    record {
      is_clean = w.is_clean && not (w.rereads && w.was_again);
      rereads = w.rereads;
      was_again = w.rereads && is_token answer;
    }

abbrev pub clean_if : Bool → Watch → Watch
clean_if is_clean w = record w { is_clean = w.is_clean && is_clean }

-- behind one more step that counts, by its answer
abbrev pub behind_step : Watch → Step → Answer → Watch
behind_step w Read answer = behind_read w answer
behind_step w (SetCtx context) answer = clean_if (not context.ignore_error) w
behind_step w (SetExprAllowed allowed) answer = w
behind_step w (SetContexts contexts) answer = clean_if false w
behind_step w PopContext answer = clean_if false w
behind_step w Reread answer = record w { rereads = w.rereads || is_done answer }
behind_step w Withdraw answer = record w { rereads = false }
behind_step w TakeErrors answer = clean_if (took_none answer) w
behind_step w Save answer = w
behind_step w (Back n) answer = w

-- what holds behind the steps that count so far, and what held at each save
pub record WatcherValue : Type 0 where
  pub watch : Watch
  pub saves : List Watch

abbrev pub watcher_of : Session → Counted → WatcherValue
watcher_of begin c = record { watch = watch_of begin c.steps; saves = map (watch_of begin) c.saves }

abbrev pub nothing_watched : WatcherValue
nothing_watched = record { watch = none_watched; saves = [] }

abbrev pub back_to : WatcherValue → Option Watch → WatcherValue
back_to w (Some saved) = record w { watch = saved }
back_to w None = w

abbrev pub with_step : WatcherValue → Step → Answer → WatcherValue
with_step w step answer = record w { watch = behind_step w.watch step answer }

-- behind one more step of any kind
unfoldable pub followed : WatcherValue → Step → Answer → WatcherValue
followed w Save answer = record w { saves = w.saves ++ w.watch ∷ [] }
followed w (Back n) answer = back_to w (slice_get w.saves n)
followed w Read answer = with_step w Read answer
followed w (SetCtx context) answer = with_step w (SetCtx context) answer
followed w (SetExprAllowed allowed) answer = with_step w (SetExprAllowed allowed) answer
followed w (SetContexts contexts) answer = with_step w (SetContexts contexts) answer
followed w PopContext answer = with_step w PopContext answer
followed w Reread answer = with_step w Reread answer
followed w Withdraw answer = with_step w Withdraw answer
followed w TakeErrors answer = with_step w TakeErrors answer

-- behind a list of steps, one answer each
abbrev pub followed_all : WatcherValue → List Step → List Answer → WatcherValue
followed_all w [] answers = w
followed_all w (step ∷ steps) [] = w
followed_all w (step ∷ steps) (answer ∷ answers) = followed_all (followed w step answer) steps answers
