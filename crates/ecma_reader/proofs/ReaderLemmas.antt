-- A reader shows one token more, or the end.
use Rattle.std.proofs.Common.{◌≡◌, ◌∙◌, ℕ, ◌+◌, ◌*◌, ◌<◌, ◌≤◌, ◌^◌, Bool, true, false, List, [], ◌∷◌, ◌++◌, append-nil, IsUtf8, Option, Some, None, length, reverse, refl, subst, sym, ap, arith}
use Rattle.std.specs.Prelude.{is_some}
use Rattle.std.specs.Str.{chars}
use Rattle.std.proofs.lemmas.List.Sums.{fold-append}
use Rattle.std.proofs.lemmas.Str.{encodes-chars, length-le-encodes}
use Rattle.ecma_place.specs.Text.{byte_len}
use Rattle.ecma_syntax.specs.declared.context.Context.{Context}
use Rattle.ecma_token.specs.View.{SpannedView}
use Rattle.ecma_state.specs.Run.{act_all, act_on}
use Rattle.ecma_state.specs.Session.{LexerState, Session, kept_back, lexer_state, state_of}
use Rattle.ecma_state.specs.declared.settings.Settings.{Settings}
use Rattle.ecma_state.specs.declared.step.Step.{Step}
use Rattle.ecma_state.specs.Ending.{most_tokens}
use Rattle.ecma_slashes.specs.Rereads.{Decides, ReadsBy, SlashRule, StepsOn, all_by, behind_by, entered, is_in_order, meets_expression, rereads, rule_of, steps_by, steps_to_end_by}
use Rattle.ecma_slashes.proofs.RoleLemmas.{tokens-behind}
use Rattle.ecma_slashes.proofs.RunLemmas.{SoFar, runs_by_rule_end, so-far-end, so-far-next}
use Rattle.ecma_reader.specs.Readers.{HasRead, IsReady, Reads, Shows, one_if, tokens_by, tokens_found, tokens_kept}
use Rattle.ecma_reader.specs.declared.reader.Reader.{Reader}
use Rattle.ecma_reader.proofs.TokenLemmas.{rereads-on}

-- Where a reader is

is-plain : (l : LexerState) (s : Session) → l ≡ state_of s → l.reread ≡ None → s.reread ≡ None
is-plain l s at plain = ap (λ x. x.reread) (sym at) ∙ plain

-- as it is told of a loop that adds the steps
abbrev so-far : (rule : SlashRule) (begin : Session) (tokens : List SpannedView) (reader : Reader) (shows : Shows rule begin tokens reader) → SoFar rule begin [] shows.steps (lexer_state reader.lexer)
so-far rule begin tokens reader shows =
    record {
      here = act_all begin shows.steps;
      added = shows.steps;
      behind = refl;
      shows = shows.at;
      there = refl;
      plain = is-plain (lexer_state reader.lexer) (act_all begin shows.steps) shows.at shows.ready.no_reread;
      count = shows.count;
      left = shows.left;
      more = shows.first;
    }

-- and back

here-is : (rule : SlashRule) (begin : Session) (steps : List Step) (l : LexerState) (so : SoFar rule begin [] steps l) → so.here ≡ act_all begin steps
here-is rule begin steps l so = so.there ∙ ap (act_all begin) (sym so.behind)

first-so : (rule : SlashRule) (begin : Session) (steps : List Step) (l : LexerState) (so : SoFar rule begin [] steps l) (n : ℕ) → all_by rule (so.count + n) begin ≡ steps ++ all_by rule n (act_all begin steps)
first-so rule begin steps l so n =
    so.more n ∙ ap (λ xs. xs ++ all_by rule n so.here) (sym so.behind) ∙ ap (λ x. steps ++ all_by rule n x) (here-is rule begin steps l so)

at-so : (rule : SlashRule) (begin : Session) (steps : List Step) (l : LexerState) (so : SoFar rule begin [] steps l) → l ≡ state_of (act_all begin steps)
at-so rule begin steps l so = so.shows ∙ ap state_of (here-is rule begin steps l so)

-- one read further

along : (rule : SlashRule) (begin : Session) (steps : List Step) → act_all begin (steps ++ steps_by rule (act_all begin steps)) ≡ behind_by rule (act_all begin steps)
along rule begin steps = fold-append act_on begin steps (steps_by rule (act_all begin steps))

one-if-le : (b : Bool) → one_if b ≤ 1
one-if-le true = omega arith
one-if-le false = omega arith

reads-some : (rule : SlashRule) (begin : Session) (tokens : List SpannedView) (old new : Reader) (t : SpannedView) (again : Bool) (shows : Shows rule begin tokens old)
    → ReadsBy rule (act_all begin shows.steps) (Some t) (lexer_state new.lexer) → again ≡ meets_expression rule (act_all begin shows.steps)
    → IsReady new → Decides rule (behind_by rule (act_all begin shows.steps)) new.decider → new.rereads ≡ old.rereads + one_if again → Shows rule begin (tokens ++ t ∷ []) new
reads-some rule begin tokens old new t again shows reads twice ready decides counted =
    let here : Session = act_all begin shows.steps in
    let steps : List Step = shows.steps ++ steps_by rule here in
    let so = so-far rule begin tokens old shows in
    let on : StepsOn rule here shows.steps steps true (lexer_state new.lexer) = record { adds = refl; told = ap is_some reads.finds; after = reads.after } in
    let next : SoFar rule begin [] steps (lexer_state new.lexer) = so-far-next rule begin [] shows.steps steps (lexer_state old.lexer) (lexer_state new.lexer) so on in
    record {
      ready = ready;
      plain = shows.plain;
      steps = steps;
      count = next.count;
      first = first-so rule begin steps (lexer_state new.lexer) next;
      left = next.left;
      at = at-so rule begin steps (lexer_state new.lexer) next;
      decides = subst (λ x. Decides rule x new.decider) (sym (along rule begin shows.steps)) decides;
      are_kept = ap (λ ts. ts ++ t ∷ []) shows.are_kept ∙ ap (λ o. tokens_kept here ++ tokens_found o) reads.finds ∙ sym (tokens-behind rule here so.plain) ∙ ap tokens_kept (sym (along rule begin shows.steps));
      counted = counted ∙ ap (λ n. n + one_if again) shows.counted ∙ ap (λ b. rereads shows.steps + one_if b) twice ∙ sym (rereads-on rule here shows.steps);
    }

reads-none : (rule : SlashRule) (begin : Session) (tokens : List SpannedView) (old new : Reader) (again : Bool) (shows : Shows rule begin tokens old)
    → ReadsBy rule (act_all begin shows.steps) None (lexer_state new.lexer) → again ≡ meets_expression rule (act_all begin shows.steps)
    → new.rereads ≡ old.rereads + one_if again → (tokens ≡ tokens_by rule begin) × HasRead rule begin new
reads-none rule begin tokens old new again shows reads twice counted =
    let here : Session = act_all begin shows.steps in
    let steps : List Step = shows.steps ++ steps_by rule here in
    let so = so-far rule begin tokens old shows in
    let on : StepsOn rule here shows.steps steps false (lexer_state new.lexer) = record { adds = refl; told = ap is_some reads.finds; after = reads.after } in
    let all = so-far-end rule begin [] shows.steps steps (lexer_state old.lexer) (lexer_state new.lexer) so on in
    let out : steps ≡ steps_to_end_by rule begin = all.0 in (
      shows.are_kept ∙ sym (append-nil (tokens_kept here)) ∙ ap (λ o. tokens_kept here ++ tokens_found o) reads.finds ∙ sym (tokens-behind rule here so.plain) ∙ ap tokens_kept (sym (along rule begin shows.steps))
          ∙ ap (λ xs. tokens_kept (act_all begin xs)) out,
      record {
        at = all.1;
        counted = counted ∙ ap (λ n. n + one_if again) shows.counted ∙ ap (λ b. rereads shows.steps + one_if b) twice ∙ sym (rereads-on rule here shows.steps) ∙ ap rereads out;
        ended = (runs_by_rule_end rule begin shows.plain).ended;
      },
    )

-- a reader that may read on may do so behind each token
pub stays-ready : (old new : Reader) (again : Bool) → IsReady old → new.lexer.reread ≡ None → new.decider.slashes ≡ old.decider.slashes → new.rereads ≡ old.rereads + one_if again
    → most_tokens (lexer_state new.lexer) < most_tokens (lexer_state old.lexer) → IsReady new
stays-ready old new again ready plain same counted less =
    let few = ready.few in
    let one = one-if-le again in
    record { no_reread = plain; in_order = ap (λ s. is_in_order (rule_of s)) same ∙ ready.in_order; few = omega (arith, few, one, counted, less) }

pub reads-on : (rule : SlashRule) (begin : Session) (tokens : List SpannedView) (old new : Reader) (found : Option SpannedView) (again more : Bool) (shows : Shows rule begin tokens old)
    → ReadsBy rule (act_all begin shows.steps) found (lexer_state new.lexer) → again ≡ meets_expression rule (act_all begin shows.steps)
    → more ≡ is_some found → (is_some found ≡ true → IsReady new) → Decides rule (behind_by rule (act_all begin shows.steps)) new.decider → new.rereads ≡ old.rereads + one_if again → Reads rule begin tokens found more new
reads-on rule begin tokens old new None again more shows reads twice told ready decides counted =
    record { told = told; goes = reads-none rule begin tokens old new again shows reads twice counted }
reads-on rule begin tokens old new (Some t) again more shows reads twice told ready decides counted =
    record { told = told; goes = reads-some rule begin tokens old new t again shows reads twice (ready refl) decides counted }

-- Before the first token

pub shows-start : (rule : SlashRule) (begin : Session) (reader : Reader) → IsReady reader → Decides rule begin reader.decider → lexer_state reader.lexer ≡ state_of begin → begin.past ≡ [] → reader.rereads ≡ 0
    → Shows rule begin [] reader
shows-start rule begin reader ready decides at none counted =
    record {
      ready = ready;
      decides = decides;
      plain = is-plain (lexer_state reader.lexer) begin at ready.no_reread;
      steps = [];
      count = 0;
      first = λ n. ap (λ k. all_by rule k begin) (let same : 0 + n ≡ n = omega arith in same);
      left = (let same = ap most_tokens at in omega (arith, same));
      at = at;
      are_kept = sym (ap (λ past. reverse (kept_back past)) none);
      counted = counted;
    }

-- a text that is no longer than places go has not too many tokens to count
pub ready-start : (settings : Settings) (context : Context) (start : ℕ) (bytes : List ℕ) (reader : Reader)
    → lexer_state reader.lexer ≡ state_of (entered settings context (record { start = start; text = chars bytes; at = 0 })) → IsUtf8 bytes → start + length bytes < 2 ^ 32
    → reader.lexer.reread ≡ None → is_in_order (rule_of reader.decider.slashes) ≡ true → reader.rereads ≡ 0 → IsReady reader
ready-start settings context start bytes reader at utf8 short plain order none =
    let bound : length (chars bytes) ≤ byte_len (chars bytes) = length-le-encodes (chars bytes) in
    let all : byte_len (chars bytes) ≡ length bytes = ap length (encodes-chars bytes utf8) in
    let most : most_tokens (state_of (entered settings context (record { start = start; text = chars bytes; at = 0 }))) ≡ 2 * length (chars bytes) + 1 = refl in
    let same = ap most_tokens at in
    record { no_reread = plain; in_order = order; few = omega (arith, bound, all, most, same, short, none) }
