use Rattle.std.proofs.Common.{subst}
use Rattle.std.specs.Prelude.{option_map}
use Rattle.ecma_token.specs.View.{spanned_view}
use Rattle.ecma_reader.specs.Outputs.{errors_among}
use Rattle.ecma_reader.proofs.FoldLemmas.{told-end, told-next, told-start}
use Rattle.ecma_rows.specs.ErrorRows.{IsGathered, of_tokens}
use Rattle.ecma_rows.proofs.ErrorLemmas.{tokens-on}
use Rattle.ecma_rows.proofs.errors.Gathered.push_tokens.Goals as goal

pub read_into-requires : goal.read_into-requires
read_into-requires c = record { ready = c.tokens.invariant.0 }

pub tokens-init : goal.tokens-init
tokens-init c = (c.requires.ready, λ rule begin shows none. told-start rule begin (λ ts. IsGathered (of_tokens (errors_among ts)) c.args.self.now) c.args.reader.now shows none)

pub tokens-preserved : goal.tokens-preserved
tokens-preserved c =
    let ok = c.in_ok-read_into.ensures in
    let found = option_map spanned_view c.read_into.new.slot in (
      ok.ready c.if-branch.true,
      λ rule begin shows none.
          let tells = c.tokens.invariant.1 rule begin shows none in
          told-next rule begin (λ ts. IsGathered (of_tokens (errors_among ts)) c.tokens.self) (λ ts. IsGathered (of_tokens (errors_among ts)) c.push_token.new.self) c.tokens.reader c.read_into.new.self found _ tells
          (ok.reads rule begin tells.tokens tells.shows) c.if-branch.true
          (λ t e so. subst (λ es. IsGathered es c.push_token.new.self) (tokens-on tells.tokens found t e) (c.in_ok-push_token.ensures (of_tokens (errors_among tells.tokens)) so)),
    )

pub returns-clause-gathered : goal.returns-clause-gathered
returns-clause-gathered c = λ rule begin shows none.
    let tells = c.tokens.invariant.1 rule begin shows none in
    (told-end rule begin (λ ts. IsGathered (of_tokens (errors_among ts)) c.tokens.self) c.tokens.reader c.read_into.new.self (option_map spanned_view c.read_into.new.slot) _ tells
    (c.in_ok-read_into.ensures.reads rule begin tells.tokens tells.shows) c.if-branch.false).0

pub returns-clause-read : goal.returns-clause-read
returns-clause-read c = λ rule begin shows none.
    let tells = c.tokens.invariant.1 rule begin shows none in
    (told-end rule begin (λ ts. IsGathered (of_tokens (errors_among ts)) c.tokens.self) c.tokens.reader c.read_into.new.self (option_map spanned_view c.read_into.new.slot) _ tells
    (c.in_ok-read_into.ensures.reads rule begin tells.tokens tells.shows) c.if-branch.false).1
