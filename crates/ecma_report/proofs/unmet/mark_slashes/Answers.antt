use Rattle.std.proofs.Common.{◌∙◌, ◌++◌, subst}
use Rattle.std.specs.Prelude.{option_map}
use Rattle.ecma_token.specs.View.{spanned_view}
use Rattle.ecma_reader.specs.Readers.{tokens_found}
use Rattle.ecma_reader.proofs.FoldLemmas.{told-end, told-next}
use Rattle.ecma_report.specs.Unmet.{AreMarked}
use Rattle.ecma_report.proofs.unmet.mark_slashes.Goals as goal

pub tokens-preserved : goal.tokens-preserved
tokens-preserved c =
    let text = c.args.text.now in
    let places = c.args.places.now in
    let marked = c.mark_token.new.marked in
    let ok = c.in_ok-read_into.ensures in
    let found = option_map spanned_view c.read_into.new.slot in (
      ok.ready c.if-branch.true,
      c.mark_token.ensures.as_many ∙ c.tokens.invariant.1,
      λ rule begin shows.
          let tells = c.tokens.invariant.2 rule begin shows in
          told-next rule begin (AreMarked text places c.tokens.marked) (AreMarked text places marked) c.tokens.reader c.read_into.new.self found _ tells
          (ok.reads rule begin tells.tokens tells.shows) c.if-branch.true
          (λ t e is. subst (λ o. AreMarked text places marked (tells.tokens ++ tokens_found o)) e (c.mark_token.ensures.marked tells.tokens is)),
    )

pub returns-clause-marked : goal.returns-clause-marked
returns-clause-marked c = λ rule begin shows.
    let tells = c.tokens.invariant.2 rule begin shows in
    (told-end rule begin (AreMarked c.args.text.now c.args.places.now c.tokens.marked) c.tokens.reader c.read_into.new.self (option_map spanned_view c.read_into.new.slot) _ tells
    (c.in_ok-read_into.ensures.reads rule begin tells.tokens tells.shows) c.if-branch.false).0
