use Rattle.std.proofs.Common.{◌≡◌, ◌∙◌, ap, arith, length, refl, subst, sym}
use Rattle.std.specs.Prelude.{IsOk, option_map}
use Rattle.ecma_token.specs.View.{spanned_view}
use Rattle.ecma_slashes.proofs.TokenLemmas.{never}
use Rattle.ecma_reader.proofs.FoldLemmas.{counted-next, told-end, told-start}
use Rattle.ecma_reader.proofs.reader.Reader.count_rest.Goals as goal

pub read_into-requires : goal.read_into-requires
read_into-requires c = record { ready = c.tokens.invariant.0 }

pub tokens-init : goal.tokens-init
tokens-init c =
    let few = c.requires.ready.few in (
      c.requires.ready,
      (omega (arith, few), (λ rule begin shows. told-start rule begin (λ ts. 0 ≡ length ts) c.args.self.now shows refl, λ was. refl)),
    )

pub tokens-preserved : goal.tokens-preserved
tokens-preserved c =
    let ok = c.in_ok-read_into.ensures in
    let less = ok.fewer c.if-branch.true in
    let few = c.tokens.invariant.1.0 in (
      ok.ready c.if-branch.true,
      (
        omega (arith, less, few),
        (
          λ rule begin shows.
              let tells = c.tokens.invariant.1.1.0 rule begin shows in
              counted-next rule begin c.tokens.count c.tokens.self c.read_into.new.self (option_map spanned_view c.read_into.new.slot) _ tells (ok.reads rule begin tells.tokens tells.shows) c.if-branch.true,
          λ was.
              let refused = ap (λ r. r.refused) (c.tokens.invariant.1.1.1 was) ∙ was in
              absurd (never (subst IsOk (sym c.in_ok-read_into.was ∙ (c.read_into.ensures.refused refused).0) refl)),
        ),
      ),
    )

pub returns-clause-count : goal.returns-clause-count
returns-clause-count c = λ rule begin shows.
    let tells = c.tokens.invariant.1.1.0 rule begin shows in
    (told-end rule begin (λ ts. c.tokens.count ≡ length ts) c.tokens.self c.read_into.new.self (option_map spanned_view c.read_into.new.slot) _ tells
    (c.in_ok-read_into.ensures.reads rule begin tells.tokens tells.shows) c.if-branch.false).0

pub returns-clause-read : goal.returns-clause-read
returns-clause-read c = λ rule begin shows.
    let tells = c.tokens.invariant.1.1.0 rule begin shows in
    (told-end rule begin (λ ts. c.tokens.count ≡ length ts) c.tokens.self c.read_into.new.self (option_map spanned_view c.read_into.new.slot) _ tells
    (c.in_ok-read_into.ensures.reads rule begin tells.tokens tells.shows) c.if-branch.false).1
