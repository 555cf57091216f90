use Rattle.std.proofs.Common.{◌∙◌, ap, false, refl, subst}
use Rattle.std.specs.Prelude.{IsOk}
use Rattle.std.specs.Str.{chars}
use Rattle.ecma_slashes.specs.Rereads.{entered, is_in_order, rule_of}
use Rattle.ecma_slashes.proofs.TokenLemmas.{never}
use Rattle.ecma_reader.specs.declared.reader.Reader.{Reader}
use Rattle.ecma_reader.proofs.ReaderLemmas.{ready-start, shows-start}
use Rattle.ecma_reader.proofs.reader.Reader.new.Goals as goal

pub returns-clause-ready : goal.returns-clause-ready
returns-clause-ready c =
    let order = ap (λ s. is_in_order (rule_of s)) c.new-decider.ensures.slashes ∙ c.requires.in_order in
    ready-start c.args.settings.now c.args.context c.args.start.0 c.args.source.now (record { lexer = c.in_ok-lexer.lexer; decider = c.new-decider.result; rereads = 0; refused = false }) c.in_ok-lexer.ensures.shows
    c.utf8.source c.requires.fits c.in_ok-lexer.ensures.no_reread order refl

pub returns-clause-shows : goal.returns-clause-shows
returns-clause-shows c =
    let reader : Reader = record { lexer = c.in_ok-lexer.lexer; decider = c.new-decider.result; rereads = 0; refused = false } in
    let begin = entered c.args.settings.now c.args.context (record { start = c.args.start.0; text = chars c.args.source.now; at = 0 }) in
    let at = c.in_ok-lexer.ensures.shows in
    let order = ap (λ s. is_in_order (rule_of s)) c.new-decider.ensures.slashes ∙ c.requires.in_order in
    shows-start (rule_of c.args.slashes) begin reader
    (ready-start c.args.settings.now c.args.context c.args.start.0 c.args.source.now reader at c.utf8.source c.requires.fits c.in_ok-lexer.ensures.no_reread order refl)
    (c.new-decider.ensures.decides begin refl refl refl) at refl refl

pub returns-in_err-lexer-clause-free : goal.returns-in_err-lexer-clause-free
returns-in_err-lexer-clause-free c = absurd (never (subst IsOk c.in_err-lexer.was c.enter.ensures.free))
