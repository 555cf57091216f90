-- A loop that reads to the end, and what decides behind the tokens that were read so far.
use Rattle.std.proofs.Common.{◌≡◌, true, List, None}
use Rattle.ecma_state.specs.Session.{LexerState, Session, state_of}
use Rattle.ecma_state.specs.declared.step.Step.{Step}
use Rattle.ecma_slashes.specs.Rereads.{Decides, SlashRule, StepsOn, behind_by}
use Rattle.ecma_slashes.specs.declared.decider.Decider.{Decider}
use Rattle.ecma_slashes.proofs.RunLemmas.{SoFar, so-far-next, so-far-start}

-- so many tokens were read, and it is decided behind them
abbrev pub DecidesSoFar : SlashRule → Session → List Step → List Step → LexerState → Decider → Type 0
DecidesSoFar rule begun before steps l d = (so : SoFar rule begun before steps l) × Decides rule so.here d

pub decides-start : (rule : SlashRule) (s : Session) (before : List Step) (l : LexerState) (d : Decider) → l ≡ state_of s → s.reread ≡ None → Decides rule s d → DecidesSoFar rule s before before l d
unfolding so-far-start
decides-start rule s before l d at plain decides = (so-far-start rule s before l at plain, decides)

pub decides-next : (rule : SlashRule) (begun : Session) (before steps now : List Step) (l next : LexerState) (d : Decider) (so : SoFar rule begun before steps l) → StepsOn rule so.here steps now true next
    → Decides rule (behind_by rule so.here) d → DecidesSoFar rule begun before now next d
unfolding so-far-next
decides-next rule begun before steps now l next d so on decides = (so-far-next rule begun before steps now l next so on, decides)
