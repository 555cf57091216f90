use Rattle.std.proofs.Common.{ap, false, refl, subst}
use Rattle.std.specs.Prelude.{IsOk}
use Rattle.std.specs.Str.{chars}
use Rattle.ecma_state.specs.Session.{lexer_state}
use Rattle.ecma_slashes.specs.Rereads.{entered, known_to, rule_of}
use Rattle.ecma_slashes.proofs.TokenLemmas.{never}
use Rattle.ecma_tracked.proofs.StateLemmas.{shows-all}
use Rattle.ecma_tracked.proofs.tracked.Tracked.new.Goals as goal

pub invariant_of-result : goal.invariant_of-result
invariant_of-result c = record { by_roles = ap rule_of c.new-decider.ensures.slashes; no_reread = λ going. ap (λ l. l.reread) c.in_ok-lexer.ensures.shows }

pub returns-clause-shows : goal.returns-clause-shows
returns-clause-shows c =
    let begin = entered c.args.settings.now c.args.context (record { start = c.args.start.0; text = chars c.args.source.now; at = 0 }) in
    shows-all begin (lexer_state c.in_ok-lexer.lexer) (known_to c.new-decider.result) false c.in_ok-lexer.ensures.shows (c.new-decider.ensures.decides begin refl refl refl).follows refl

pub returns-in_err-lexer-clause-free : goal.returns-in_err-lexer-clause-free
returns-in_err-lexer-clause-free c = absurd (never (subst IsOk c.in_err-lexer.was c.enter.ensures.free))
