-- What a text is read to.
use Rattle.std.specs.Prelude.{◌≡◌, List, [], ◌∷◌, Option, Some, None, flat_map, map}
use Rattle.ecma_token.specs.View.{ErrorView, SpannedView, error_view, refusal_of}
use Rattle.ecma_token.specs.declared.error.Error.{Error}
use Rattle.ecma_state.specs.Counting.{counting}
use Rattle.ecma_state.specs.Run.{act_all}
use Rattle.ecma_state.specs.Session.{Session}
use Rattle.ecma_state.specs.declared.step.Step.{Step}
use Rattle.ecma_replay.specs.Replay.{Gathers}
use Rattle.ecma_slashes.specs.Rereads.{rereads}
use Rattle.ecma_reader.specs.Readers.{tokens_kept}
use Rattle.ecma_reader.specs.declared.error_tokens.ReadOut.{ReadOut}
use Rattle.ecma_reader.specs.declared.tokens.LexOutput.{LexOutput}

-- Tokens that are errors

-- the errors of tokens that are one, in order
abbrev pub errors_among : List SpannedView → List ErrorView
errors_among tokens = flat_map (λ t. refusal_of t.token) tokens

-- those of the tokens that a session keeps
abbrev pub error_tokens : Session → List ErrorView
error_tokens s = errors_among (tokens_kept s)

-- an error that was taken out of a token
abbrev pub error_in : Option Error → List ErrorView
error_in None = []
error_in (Some e) = error_view e ∷ []

-- Texts

-- what these steps come to was gathered, and so many slashes were read again
pub record IsLexed (begin : Session) (steps : List Step) (r : LexOutput) : Type 0 where
  pub gathers : Gathers begin steps r.gathered
  pub rereads : r.rereads ≡ rereads steps

-- and these are the errors of the tokens that are one
pub record IsReadOut (begin : Session) (steps : List Step) (r : ReadOut) : Type 0 where
  pub gathers : Gathers begin steps r.gathered
  pub rereads : r.rereads ≡ rereads steps
  pub refusals : map error_view r.refusals.items ≡ error_tokens (act_all begin (counting steps))
