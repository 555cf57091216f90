-- What is expected behind the tokens that were read.
use Rattle.std.proofs.Common.{◌≡◌, ◌∙◌, ℕ, zero, suc, ◌+◌, Bool, true, false, List, append-nil, map, refl, sym, ap}
use Rattle.std.specs.Prelude.{IfOk, Result, Ok, Err}
use Rattle.std.proofs.lemmas.List.Sums.{fold-append}
use Rattle.ecma_syntax.specs.Questions.{typescript}
use Rattle.ecma_token.specs.View.{SpannedView}
use Rattle.ecma_roles.specs.Track as tracks
use Rattle.ecma_state.specs.Run.{act_all, act_on}
use Rattle.ecma_state.specs.Session.{Session, has_ended}
use Rattle.ecma_slashes.specs.Known.{expected_next, leading}
use Rattle.ecma_slashes.specs.Rereads.{SlashRule, all_by, at_places, behind_by, by_flag, by_role, is_in_order, known_by, known_to, numbered, rule_of, steps_by, unless_ended}
use Rattle.ecma_slashes.specs.Roles.{part_in, tokens_kept}
use Rattle.ecma_slashes.specs.declared.decider.Decider.{Decider}
use Rattle.ecma_slashes.proofs.RoleLemmas.{context-behind, decides-caught-up, settings-behind}
use Rattle.ecma_reader.specs.Readers.{IsReady, Shows, expected_behind}
use Rattle.ecma_reader.specs.declared.reader.Reader.{Reader}

-- What reads leave as it was

-- so many reads, of which each is the first, or none
along : (rule : SlashRule) (s : Session) (n : ℕ) → act_all s (all_by rule (suc n) s) ≡ act_all (behind_by rule s) (unless_ended (has_ended (behind_by rule s).past) (all_by rule n (behind_by rule s)))
along rule s n = fold-append act_on s (steps_by rule s) (unless_ended (has_ended (behind_by rule s).past) (all_by rule n (behind_by rule s)))

settings-unless : (rule : SlashRule) (n : ℕ) (s : Session) (ended : Bool) → (act_all s (all_by rule n s)).settings ≡ s.settings → (act_all s (unless_ended ended (all_by rule n s))).settings ≡ s.settings
settings-unless rule n s true same = refl
settings-unless rule n s false same = same

settings-all : (rule : SlashRule) (n : ℕ) (s : Session) → (act_all s (all_by rule n s)).settings ≡ s.settings
settings-all rule zero s = refl
settings-all rule (suc n) s =
    ap (λ x. x.settings) (along rule s n)
    ∙ settings-unless rule n (behind_by rule s) (has_ended (behind_by rule s).past) (settings-all rule n (behind_by rule s))
    ∙ settings-behind rule s

context-unless : (rule : SlashRule) (n : ℕ) (s : Session) (ended : Bool) → (act_all s (all_by rule n s)).context ≡ s.context → (act_all s (unless_ended ended (all_by rule n s))).context ≡ s.context
context-unless rule n s true same = refl
context-unless rule n s false same = same

context-all : (rule : SlashRule) (n : ℕ) (s : Session) → (act_all s (all_by rule n s)).context ≡ s.context
context-all rule zero s = refl
context-all rule (suc n) s =
    ap (λ x. x.context) (along rule s n)
    ∙ context-unless rule n (behind_by rule s) (has_ended (behind_by rule s).past) (context-all rule n (behind_by rule s))
    ∙ context-behind rule s

-- Where a reader is

reads-are : (rule : SlashRule) (begin : Session) (tokens : List SpannedView) (reader : Reader) (shows : Shows rule begin tokens reader) → act_all begin shows.steps ≡ act_all begin (all_by rule (shows.count + 0) begin)
reads-are rule begin tokens reader shows = ap (act_all begin) (sym (shows.first 0 ∙ append-nil shows.steps))

by-tokens : (rule : SlashRule) (begin here : Session) (tokens : List SpannedView) → here.settings ≡ begin.settings → here.context ≡ begin.context → tokens ≡ tokens_kept here
    → expected_next (known_by rule here) ≡ expected_behind rule begin tokens
by-tokens by_flag begin here tokens settings context kept = refl
by-tokens (at_places places) begin here tokens settings context kept = refl
by-tokens (numbered numbers) begin here tokens settings context kept = refl
by-tokens by_role begin here tokens settings context kept =
    ap (λ x. expected_next (leading (tracks.track_of (typescript x.syntax) here.context.«module» (map part_in (tokens_kept here))))) settings
    ∙ ap (λ x. expected_next (leading (tracks.track_of (typescript begin.settings.syntax) x.«module» (map part_in (tokens_kept here))))) context
    ∙ ap (λ ts. expected_next (leading (tracks.track_of (typescript begin.settings.syntax) begin.context.«module» (map part_in ts)))) (sym kept)

-- what the decider says is expected behind the tokens that were read
pub expected-by : (rule : SlashRule) (begin : Session) (tokens : List SpannedView) (reader : Reader) → Shows rule begin tokens reader → expected_next (known_to reader.decider) ≡ expected_behind rule begin tokens
expected-by rule begin tokens reader shows =
    ap expected_next shows.decides.follows
    ∙ by-tokens rule begin (act_all begin shows.steps) tokens
    (ap (λ x. x.settings) (reads-are rule begin tokens reader shows) ∙ settings-all rule (shows.count + 0) begin)
    (ap (λ x. x.context) (reads-are rule begin tokens reader shows) ∙ context-all rule (shows.count + 0) begin)
    shows.are_kept

-- A decider that catches up

abbrev pub with_decider : Reader → Decider → Reader
with_decider reader decider = record { lexer = reader.lexer; decider = decider; rereads = reader.rereads; refused = reader.refused }

pub ready-caught-up : (reader : Reader) (decider : Decider) → decider.slashes ≡ reader.decider.slashes → IsReady reader → IsReady (with_decider reader decider)
ready-caught-up reader decider same ready = record { no_reread = ready.no_reread; in_order = ap (λ s. is_in_order (rule_of s)) same ∙ ready.in_order; few = ready.few }

pub shows-caught-up : (rule : SlashRule) (begin : Session) (tokens : List SpannedView) (reader : Reader) (decider : Decider) → decider.slashes ≡ reader.decider.slashes → known_to decider ≡ known_to reader.decider
    → Shows rule begin tokens reader → Shows rule begin tokens (with_decider reader decider)
shows-caught-up rule begin tokens reader decider same follows shows =
    record {
      ready = ready-caught-up reader decider same shows.ready;
      plain = shows.plain;
      steps = shows.steps;
      count = shows.count;
      first = shows.first;
      left = shows.left;
      at = shows.at;
      decides = decides-caught-up rule (act_all begin shows.steps) reader.decider decider shows.decides same follows;
      are_kept = shows.are_kept;
      counted = shows.counted;
    }

-- what is told is told by another name
pub told-if : {T E : Type 0} (result : Result T E) (one other : T) → one ≡ other → IfOk result (λ v. v ≡ one) → IfOk result (λ v. v ≡ other)
told-if (Ok v) one other same told = told ∙ same
told-if (Err e) one other same told = tt
