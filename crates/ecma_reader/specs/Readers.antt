-- What a reader of a text shows while it reads, and at the end.
use Rattle.std.specs.Prelude.{ℕ, ◌+◌, ◌<◌, ◌≤◌, ◌^◌, ◌≡◌, Bool, true, false, List, [], ◌∷◌, ◌++◌, Option, Some, None, flat_map, is_some, map}
use Rattle.ecma_token.specs.View.{SpannedView, error_view}
use Rattle.ecma_state.specs.Run.{act_all}
use Rattle.ecma_state.specs.Session.{Session, has_ended, lexer_state, state_of}
use Rattle.ecma_state.specs.declared.step.Step.{Step}
use Rattle.ecma_state.specs.Ending.{most_tokens}
use Rattle.ecma_slashes.specs.Rereads.{Decides, SlashRule, all_by, at_places, by_flag, by_role, is_in_order, numbered, rereads, rule_of, steps_to_end_by}
use Rattle.ecma_slashes.specs.Known.{Known, expected_next, leading, nothing}
use Rattle.ecma_slashes.specs.Roles.{tracked_in}
pub use Rattle.ecma_slashes.specs.Roles.{tokens_found, tokens_kept}
use Rattle.ecma_slashes.specs.declared.decider.Expected.{Expected}
use Rattle.ecma_reader.specs.declared.reader.Outcome.{Outcome}
use Rattle.ecma_reader.specs.declared.reader.Reader.{Reader}

-- Tokens

-- where a session comes to, read to its end
abbrev pub end_by : SlashRule → Session → Session
end_by rule s = act_all s (steps_to_end_by rule s)

-- the tokens that are kept there
abbrev pub tokens_by : SlashRule → Session → List SpannedView
tokens_by rule s = tokens_kept (end_by rule s)

abbrev pub one_if : Bool → ℕ
one_if true = 1
one_if false = 0

-- What is expected

-- behind these tokens, which were read from a session on; no rule but that by role says so
abbrev pub led_to : SlashRule → Session → List SpannedView → Known
led_to by_role begin tokens = leading (tracked_in begin tokens)
led_to by_flag begin tokens = nothing
led_to (at_places places) begin tokens = nothing
led_to (numbered numbers) begin tokens = nothing

abbrev pub expected_behind : SlashRule → Session → List SpannedView → Option Expected
expected_behind rule begin tokens = expected_next (led_to rule begin tokens)

-- Readers

-- it may read on: no slash is read again, and what is left is not too much to count
pub record IsReady (reader : Reader) : Type 0 where
  pub no_reread : reader.lexer.reread ≡ None
  pub in_order : is_in_order (rule_of reader.decider.slashes) ≡ true
  pub few : reader.rereads + most_tokens (lexer_state reader.lexer) < 2 ^ 60

-- From a session on these tokens were read by the rule, none of which was the end, and are kept. The steps by which they were
-- read are those with which all steps by the rule begin.
pub record Shows (rule : SlashRule) (begin : Session) (tokens : List SpannedView) (reader : Reader) : Type 0 where
  pub ready : IsReady reader
  pub plain : begin.reread ≡ None
  pub steps : List Step
  pub count : ℕ
  pub first : (n : ℕ) → all_by rule (count + n) begin ≡ steps ++ all_by rule n (act_all begin steps)
  pub left : count + most_tokens (lexer_state reader.lexer) ≤ most_tokens (state_of begin)
  pub at : lexer_state reader.lexer ≡ state_of (act_all begin steps)
  pub decides : Decides rule (act_all begin steps) reader.decider
  pub are_kept : tokens ≡ tokens_kept (act_all begin steps)
  pub counted : reader.rereads ≡ rereads steps

-- all was read, and so many slashes again
pub record HasRead (rule : SlashRule) (begin : Session) (reader : Reader) : Type 0 where
  pub at : lexer_state reader.lexer ≡ state_of (end_by rule begin)
  pub counted : reader.rereads ≡ rereads (steps_to_end_by rule begin)
  pub ended : has_ended (end_by rule begin).past ≡ true

-- behind these tokens one more was found, or the end: then they are all tokens of the session
abbrev pub Goes : SlashRule → Session → List SpannedView → Option SpannedView → Reader → Type 0
Goes rule begin tokens (Some t) reader = Shows rule begin (tokens ++ t ∷ []) reader
Goes rule begin tokens None reader = (tokens ≡ tokens_by rule begin) × HasRead rule begin reader

-- and it is told which
pub record Reads (rule : SlashRule) (begin : Session) (tokens : List SpannedView) (found : Option SpannedView) (more : Bool) (reader : Reader) : Type 0 where
  pub told : more ≡ is_some found
  pub goes : Goes rule begin tokens found reader

-- what a session leaves besides its tokens
pub record Leaves (s : Session) (outcome : Outcome) : Type 0 where
  pub errors : map error_view outcome.errors ≡ s.errors.recorded
  pub waiting : map error_view outcome.waiting ≡ s.errors.waiting
  pub comments : outcome.comments.items ≡ s.comments
  pub ended : outcome.ended ≡ has_ended s.past

-- For a loop over a reader

-- this holds of the tokens that were read so far
pub record Tells (rule : SlashRule) (begin : Session) (P : List SpannedView → Type 0) (reader : Reader) : Type 0 where
  pub tokens : List SpannedView
  pub shows : Shows rule begin tokens reader
  pub holds : P tokens

-- these are what each token gives, in order
abbrev pub Maps : {B : Type 0} → (SpannedView → B) → List B → List SpannedView → Type 0
Maps f items tokens = items ≡ map f tokens

abbrev pub FlatMaps : {B : Type 0} → (SpannedView → List B) → List B → List SpannedView → Type 0
FlatMaps f items tokens = items ≡ flat_map f tokens
