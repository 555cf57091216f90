use Rattle.std.specs.Prelude.{option_map}
use Rattle.ecma_token.specs.View.{spanned_view}
use Rattle.ecma_state.specs.Session.{kept_of}
use Rattle.ecma_reader.specs.Readers.{Maps}
use Rattle.ecma_reader.proofs.FoldLemmas.{mapped-next, told-end, told-start}
use Rattle.ecma_reader.proofs.tokens.keep_rest.Goals as goal

pub read_into-requires : goal.read_into-requires
read_into-requires c = record { ready = c.tokens.invariant.0 }

pub tokens-init : goal.tokens-init
tokens-init c = (c.requires.ready, λ rule begin shows none. told-start rule begin (Maps kept_of c.args.kept.now.items) c.args.reader.now shows none)

pub tokens-preserved : goal.tokens-preserved
tokens-preserved c =
    let ok = c.in_ok-read_into.ensures in (
      ok.ready c.if-branch.true,
      λ rule begin shows none.
          let tells = c.tokens.invariant.1 rule begin shows none in
          mapped-next kept_of rule begin c.tokens.kept.items c.keep.new.kept.items c.tokens.reader c.read_into.new.self (option_map spanned_view c.read_into.new.slot) _ tells
          (ok.reads rule begin tells.tokens tells.shows) c.if-branch.true c.in_ok-keep.ensures,
    )

pub returns-clause-kept : goal.returns-clause-kept
returns-clause-kept c = λ rule begin shows none.
    let tells = c.tokens.invariant.1 rule begin shows none in
    (told-end rule begin (Maps kept_of c.tokens.kept.items) c.tokens.reader c.read_into.new.self (option_map spanned_view c.read_into.new.slot) _ tells
    (c.in_ok-read_into.ensures.reads rule begin tells.tokens tells.shows) c.if-branch.false).0

pub returns-clause-read : goal.returns-clause-read
returns-clause-read c = λ rule begin shows none.
    let tells = c.tokens.invariant.1 rule begin shows none in
    (told-end rule begin (Maps kept_of c.tokens.kept.items) c.tokens.reader c.read_into.new.self (option_map spanned_view c.read_into.new.slot) _ tells
    (c.in_ok-read_into.ensures.reads rule begin tells.tokens tells.shows) c.if-branch.false).1
