-- What the player by copies holds, and how it stands to the run of its steps.
use Rattle.std.specs.Prelude.{◌≡◌, ◌++◌, ⊤, List, [], ◌∷◌, map}
use Rattle.ecma_state.specs.Counting.{count_all, none_yet}
use Rattle.ecma_state.specs.Run.{Acted, act_all, answers_behind}
use Rattle.ecma_state.specs.Session.{LexerValue, Session, kept_back, kept_of, lexer_state, state_of}
use Rattle.ecma_replay.specs.Replay.{answer_view}
use Rattle.ecma_replay.specs.declared.answer.Answer.{Answer}
use Rattle.ecma_state.specs.declared.kept.Kept.{Kept}
use Rattle.ecma_state.specs.declared.step.Step.{Step}

-- a lexer, and the tokens that are kept of what it answered, the newest first
pub record PlayerValue : Type 0 where
  pub lexer : LexerValue
  pub kept : List Kept

-- it has come to a session
pub record IsAt (s : Session) (p : PlayerValue) : Type 0 where
  pub state : lexer_state p.lexer ≡ state_of s
  pub kept : p.kept ≡ map kept_of (kept_back s.past)

-- a step answered and led to what it does in the run
pub record Acts (acted : Acted) (answer : Answer) (p : PlayerValue) : Type 0 where
  pub answered : answer_view answer ≡ acted.answer
  pub after : IsAt acted.after p

-- as many have come to the sessions behind as many lists of counting steps
abbrev pub AllAt : Session → List (List Step) → List PlayerValue → Type 0
AllAt begin [] [] = ⊤
AllAt begin [] (p ∷ ps) = ⊥
AllAt begin (steps ∷ more) [] = ⊥
AllAt begin (steps ∷ more) (p ∷ ps) = IsAt (act_all begin steps) p × AllAt begin more ps

-- what a list of steps has come to: the lexer that goes on, those that were saved, and the answers
pub record RunnerValue : Type 0 where
  pub player : PlayerValue
  pub saves : List PlayerValue
  pub answers : List Answer

abbrev pub with_answer : RunnerValue → Answer → RunnerValue
with_answer r answer = record r { answers = r.answers ++ answer ∷ [] }

-- it has come to where these steps lead
pub record Follows (begin : Session) (steps : List Step) (r : RunnerValue) : Type 0 where
  pub player : IsAt (act_all begin (count_all none_yet steps).steps) r.player
  pub saves : AllAt begin (count_all none_yet steps).saves r.saves
  pub answers : map answer_view r.answers ≡ answers_behind begin none_yet steps
