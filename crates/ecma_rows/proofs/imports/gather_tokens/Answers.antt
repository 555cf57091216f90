use Rattle.std.specs.Prelude.{option_map}
use Rattle.ecma_token.specs.View.{spanned_view}
use Rattle.ecma_module_reader.specs.Readings.{Gathers}
use Rattle.ecma_module_reader.proofs.TokenLemmas.{gathers-end, gathers-next}
use Rattle.ecma_reader.proofs.FoldLemmas.{told-start}
use Rattle.ecma_rows.proofs.imports.gather_tokens.Goals as goal

pub gather_next-requires : goal.gather_next-requires
gather_next-requires c = record { ready = c.tokens.invariant.0 }

pub tokens-init : goal.tokens-init
tokens-init c = (
  c.requires.ready,
  λ rule begin options shows so. told-start rule begin (Gathers rule begin options c.args.gathering.now) c.args.reader.now shows so,
)

pub tokens-preserved : goal.tokens-preserved
tokens-preserved c =
    let ok = c.in_ok-gather_next.ensures in (
      ok.ready c.if-branch.true,
      λ rule begin options shows so.
          let tells = c.tokens.invariant.1 rule begin options shows so in
          gathers-next rule begin options c.tokens.gathering c.gather_next.new.gathering c.tokens.reader c.gather_next.new.reader (option_map spanned_view c.gather_next.new.slot) _ tells
          (ok.reads rule begin tells.tokens tells.shows) c.if-branch.true (ok.gathers rule begin tells.tokens options tells.shows tells.holds),
    )

pub returns-clause-gathered : goal.returns-clause-gathered
returns-clause-gathered c = λ rule begin options shows so.
    let ok = c.in_ok-gather_next.ensures in
    let tells = c.tokens.invariant.1 rule begin options shows so in
    (gathers-end rule begin options c.tokens.gathering c.gather_next.new.gathering c.tokens.reader c.gather_next.new.reader (option_map spanned_view c.gather_next.new.slot) _ tells
    (ok.reads rule begin tells.tokens tells.shows) c.if-branch.false (ok.gathers rule begin tells.tokens options tells.shows tells.holds)).0

pub returns-clause-read : goal.returns-clause-read
returns-clause-read c = λ rule begin options shows so.
    let ok = c.in_ok-gather_next.ensures in
    let tells = c.tokens.invariant.1 rule begin options shows so in
    (gathers-end rule begin options c.tokens.gathering c.gather_next.new.gathering c.tokens.reader c.gather_next.new.reader (option_map spanned_view c.gather_next.new.slot) _ tells
    (ok.reads rule begin tells.tokens tells.shows) c.if-branch.false (ok.gathers rule begin tells.tokens options tells.shows tells.holds)).1
