-- A slash that was answered last is read again.
use Rattle.std.proofs.Common.{◌≡◌, ◌∙◌, true, List, [], ◌∷◌, Some, None, sym, ap}
use Rattle.ecma_place.specs.declared.place.BytePos.{BytePos}
use Rattle.ecma_state.specs.Run.{act_all, act_on, given_in, reading_of, reread_from, state_behind, state_rereading}
use Rattle.ecma_state.specs.Session.{LexerState, Session, seen_of, state_of}
use Rattle.ecma_state.specs.State.{last_slash}
use Rattle.ecma_state.specs.declared.step.Step.{Step}
use Rattle.ecma_state.specs.declared.step.Step.TheVariants.{Read, Reread, Withdraw}
use Rattle.ecma_state.specs.Slashes.{slash_answered}
use Rattle.ecma_stream.proofs.EndingLemmas.{state-behind}

-- the steps by which it is read
abbrev pub rereading : List Step
rereading = Reread ∷ (Read ∷ (Withdraw ∷ []))

-- the three steps from a session whose last answer was a slash, as a lexer takes them: where the read begins, where they
-- lead, and what was answered
pub record RereadSteps (s : Session) (asked done : LexerState) : Type 0 where
  pub begins : asked ≡ state_of (act_on s Reread)
  pub ends : done ≡ state_of (act_all s rereading)
  pub past : (act_all s rereading).past ≡ given_in true (reading_of asked).end_flag (reading_of asked).found ∷ s.past

pub reread-steps : (s : Session) (l asked now done : LexerState) (p : BytePos) → l ≡ state_of s → slash_answered l ≡ Some p → asked ≡ state_rereading (Some p) l → now ≡ state_behind asked (reading_of asked)
    → done ≡ state_rereading None now → RereadSteps s asked done
reread-steps s l asked now done p at told sets moved withdrawn =
    let slash : last_slash (seen_of s.past) ≡ Some p = ap slash_answered (sym at) ∙ told in
    let first : Session = record s { reread = Some p } in
    let step : act_on s Reread ≡ first = ap (λ o. (reread_from s o).after) slash in
    let there : asked ≡ state_of first = sets ∙ ap (state_rereading (Some p)) at in
    let read : now ≡ state_of (act_on first Read) = moved ∙ ap (λ x. state_behind x (reading_of x)) there ∙ sym (state-behind first) in
    record {
      begins = there ∙ ap state_of (sym step);
      ends = withdrawn ∙ ap (state_rereading None) read ∙ ap (λ x. state_of (act_on (act_on x Read) Withdraw)) (sym step);
      past = ap (λ x. (act_on (act_on x Read) Withdraw).past) step ∙ ap (λ x. given_in true (reading_of x).end_flag (reading_of x).found ∷ s.past) (sym there);
    }
