-- The tokens whose slashes are read again, and what is read behind them.
use Rattle.std.specs.Prelude.{◌≡◌, ◌≤◌, ℕ, ◌-◌, ◌⊎◌, ⊤, Bool, true, false, List, [], ◌∷◌, Option, Some, None, Result, Ok, Err, if◌then◌else◌, is_some, map, reverse}
use Rattle.ecma_token.specs.View.{SpannedView, spanned_view}
use Rattle.ecma_state.specs.Ending.{behind_reads}
use Rattle.ecma_state.specs.Run.{act_all}
use Rattle.ecma_state.specs.Session.{Session, kept_back, lexer_state, state_of}
use Rattle.ecma_state.specs.Slashes.{slash_answered}
use Rattle.ecma_state.specs.declared.step.Step.{Step}
use Rattle.ecma_state.specs.declared.step.Step.TheVariants.{Read, Reread, Withdraw}
use Rattle.ecma_options.specs.Begin.{begin}
use Rattle.ecma_options.specs.declared.options.Options.{Options}
use Rattle.ecma_stdio.specs.declared.fault.Fault.{Fault}
use Rattle.ecma_stdio.specs.declared.fault.Fault.TheVariants.{NoSlash, OutOfMemory}
use Rattle.ecma_program.specs.declared.rereads.ReadAgain.{ReadAgain}

-- the steps that read the last token again
abbrev pub rereading : List Step
rereading = Reread ∷ (Read ∷ (Withdraw ∷ []))

-- where a run comes to, from a session where so many tokens are kept, once the tokens with these numbers were read
-- again; none where one of them is no slash or isn't there
abbrev pub behind_rereads : ℕ → Session → List ℕ → Option Session
behind_rereads kept s [] = Some s
behind_rereads kept s (n ∷ ns) =
    if is_some (slash_answered (state_of (behind_reads (n - kept) s))) then behind_rereads n (act_all (behind_reads (n - kept) s) rereading) ns else None

-- where the reading of a text comes to once all that is to be read again was
abbrev pub session_behind : Bool → Options → List ℕ → List ℕ → Option Session
session_behind comments options rereads bytes = behind_rereads 0 (begin comments options bytes) rereads

-- a lexer has come to a session where nothing is read again, and these are the tokens that are kept, in order
pub record Stands (s : Session) (o : ReadAgain) : Type 0 where
  pub state : lexer_state o.lexer ≡ state_of s
  pub plain : s.reread ≡ None
  pub kept : map spanned_view o.tokens.items ≡ reverse (kept_back s.past)

-- it has come there; or not, as the end came before, and then no slash was answered there
abbrev pub CameTo : Session → Bool → ReadAgain → Type 0
CameTo s true o = Stands s o
CameTo s false o = slash_answered (state_of s) ≡ None

-- why there is nothing: a token that is to be read again is no slash or isn't there, or memory was wanted
abbrev pub Lacks : {T : Type 0} → Option T → Fault → Type 0
Lacks wanted fault = ((wanted ≡ None) × (fault ≡ NoSlash)) ⊎ (fault ≡ OutOfMemory)

-- the same as a reply
abbrev pub unless_no_slash : {T : Type 0} → Option T → Result T Fault
unless_no_slash None = Err NoSlash
unless_no_slash (Some wanted) = Ok wanted

-- why there is nothing: that fault, or memory was wanted
abbrev pub Fails : {T : Type 0} → Result T Fault → Fault → Type 0
Fails wanted fault = (wanted ≡ Err fault) ⊎ (fault ≡ OutOfMemory)

-- each of these tokens stands in the first n bytes of a text that starts at the place 0
abbrev pub AllWithin : ℕ → List SpannedView → Type 0
AllWithin n [] = ⊤
AllWithin n (t ∷ ts) = (t.span.lo.0 ≤ t.span.hi.0) × (t.span.hi.0 ≤ n) × AllWithin n ts
