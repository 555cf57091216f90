use Rattle.std.proofs.Common.{ap, map}
use Rattle.std.specs.Prelude.{option_map}
use Rattle.ecma_token.specs.View.{SpannedView, error_view, refusal_of, spanned_view}
use Rattle.ecma_state.specs.Session.{kept_of}
use Rattle.ecma_reader.specs.Readers.{FlatMaps, Maps}
use Rattle.ecma_reader.proofs.FoldLemmas.{flat_mapped-next, mapped-next, told-end, told-start}
use Rattle.ecma_reader.proofs.error_tokens.Sink.take_rest.Goals as goal

pub read_into-requires : goal.read_into-requires
read_into-requires c = record { ready = c.tokens.invariant.0 }

pub tokens-init : goal.tokens-init
tokens-init c = (
  c.requires.ready,
  λ rule begin shows none clean. (
    told-start rule begin (Maps kept_of c.args.self.now.kept.items) c.args.reader.now shows none,
    told-start rule begin (FlatMaps (λ t. refusal_of t.token) (map error_view c.args.self.now.errors.items)) c.args.reader.now shows (ap (map error_view) clean),
  ),
)

pub tokens-preserved : goal.tokens-preserved
tokens-preserved c =
    let ok = c.in_ok-read_into.ensures in
    let found = option_map spanned_view c.read_into.new.slot in (
      ok.ready c.if-branch.true,
      λ rule begin shows none clean.
          let tells = c.tokens.invariant.1 rule begin shows none clean in (
            mapped-next kept_of rule begin c.tokens.self.kept.items c.take_in.new.self.kept.items c.tokens.reader c.read_into.new.self found _ tells.0
                (ok.reads rule begin tells.0.tokens tells.0.shows) c.if-branch.true c.in_ok-take_in.ensures.kept,
            flat_mapped-next (λ (t : SpannedView). refusal_of t.token) rule begin (map error_view c.tokens.self.errors.items) (map error_view c.take_in.new.self.errors.items) c.tokens.reader c.read_into.new.self found _ tells.1
                (ok.reads rule begin tells.1.tokens tells.1.shows) c.if-branch.true c.in_ok-take_in.ensures.errors,
          ),
    )

pub returns-clause-kept : goal.returns-clause-kept
returns-clause-kept c = λ rule begin shows none clean.
    let tells = (c.tokens.invariant.1 rule begin shows none clean).0 in
    (told-end rule begin (Maps kept_of c.tokens.self.kept.items) c.tokens.reader c.read_into.new.self (option_map spanned_view c.read_into.new.slot) _ tells
    (c.in_ok-read_into.ensures.reads rule begin tells.tokens tells.shows) c.if-branch.false).0

pub returns-clause-errors : goal.returns-clause-errors
returns-clause-errors c = λ rule begin shows none clean.
    let tells = (c.tokens.invariant.1 rule begin shows none clean).1 in
    (told-end rule begin (FlatMaps (λ (t : SpannedView). refusal_of t.token) (map error_view c.tokens.self.errors.items)) c.tokens.reader c.read_into.new.self (option_map spanned_view c.read_into.new.slot) _ tells
    (c.in_ok-read_into.ensures.reads rule begin tells.tokens tells.shows) c.if-branch.false).0

pub returns-clause-read : goal.returns-clause-read
returns-clause-read c = λ rule begin shows none clean.
    let tells = (c.tokens.invariant.1 rule begin shows none clean).0 in
    (told-end rule begin (Maps kept_of c.tokens.self.kept.items) c.tokens.reader c.read_into.new.self (option_map spanned_view c.read_into.new.slot) _ tells
    (c.in_ok-read_into.ensures.reads rule begin tells.tokens tells.shows) c.if-branch.false).1
