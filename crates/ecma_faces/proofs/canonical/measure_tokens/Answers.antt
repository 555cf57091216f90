use Rattle.std.proofs.Common.{◌≡◌, ◌∙◌, ◌&&◌, [], ◌∷◌, None, Some, ap, arith, map, refl, sym, true}
use Rattle.std.specs.List.{list_all}
use Rattle.std.specs.Prelude.{option_map}
use Rattle.std.proofs.lemmas.List.Folds.{list_all-append}
use Rattle.ecma_token.specs.View.{SpannedView, error_view, refusal_of, spanned_view}
use Rattle.ecma_reader.specs.Readers.{FlatMaps, tokens_found}
use Rattle.ecma_reader.proofs.FoldLemmas.{flat_mapped-next, told-end, told-next, told-start}
use Rattle.ecma_faces.specs.Canonical.{has_no_error}
use Rattle.ecma_faces.proofs.JoinedLemmas.{Measures, measures-token}
use Rattle.ecma_faces.proofs.canonical.measure_tokens.Goals as goal

pub read_into-requires : goal.read_into-requires
read_into-requires c = record { ready = c.tokens.invariant.0 }

pub tokens-init : goal.tokens-init
tokens-init c = (
  c.requires.ready,
  (
    λ rule begin shows.
        told-start rule begin (λ ts. Measures c.args.report.now.text.now (Some 0) None ts × (true ≡ list_all has_no_error ts)) c.args.reader.now shows (((refl, omega arith), refl), refl),
    λ rule begin shows none. told-start rule begin (FlatMaps (λ t. refusal_of t.token) (map error_view c.args.errors.now.items)) c.args.reader.now shows (ap (map error_view) none),
  ),
)

pub tokens-preserved : goal.tokens-preserved
tokens-preserved c =
    let ok = c.in_ok-read_into.ensures in
    let text = c.args.report.now.text.now in
    let found = option_map spanned_view c.read_into.new.slot in (
      ok.ready c.if-branch.true,
      (
        λ rule begin shows.
            let tells = c.tokens.invariant.1.0 rule begin shows in
            told-next rule begin
            (λ ts. Measures text c.tokens.bytes c.tokens.before ts × (c.tokens.clean ≡ list_all has_no_error ts))
            (λ ts. Measures text c.with_slot-bytes.result c.kind_read-before.result ts × (c.stays_clean-clean.result ≡ list_all has_no_error ts))
            c.tokens.reader c.read_into.new.self found _ tells (ok.reads rule begin tells.tokens tells.shows) c.if-branch.true
            (λ t is held. (
              measures-token text c.tokens.bytes c.with_slot-bytes.result c.tokens.before c.kind_read-before.result found tells.tokens t held.0 is c.with_slot-bytes.ensures c.kind_read-before.ensures,
              c.stays_clean-clean.ensures
                  ∙ ap (λ b. b && list_all has_no_error (tokens_found found)) held.1
                  ∙ ap (λ f. list_all has_no_error tells.tokens && list_all has_no_error (tokens_found f)) is
                  ∙ sym (list_all-append has_no_error tells.tokens (t ∷ [])),
            )),
        λ rule begin shows none.
            let tells = c.tokens.invariant.1.1 rule begin shows none in
            flat_mapped-next (λ (t : SpannedView). refusal_of t.token) rule begin (map error_view c.tokens.errors.items) (map error_view c.keep_error.new.errors.items) c.tokens.reader c.read_into.new.self found _ tells
            (ok.reads rule begin tells.tokens tells.shows) c.if-branch.true c.in_ok-keep_error.ensures,
      ),
    )

pub returns-clause-counted : goal.returns-clause-counted
returns-clause-counted c = λ rule begin shows.
    let tells = c.tokens.invariant.1.0 rule begin shows in
    (told-end rule begin (λ ts. Measures c.args.report.now.text.now c.tokens.bytes c.tokens.before ts × (c.tokens.clean ≡ list_all has_no_error ts)) c.tokens.reader c.read_into.new.self
    (option_map spanned_view c.read_into.new.slot) _ tells (c.in_ok-read_into.ensures.reads rule begin tells.tokens tells.shows) c.if-branch.false).0.0.0

pub returns-clause-clean : goal.returns-clause-clean
returns-clause-clean c = λ rule begin shows.
    let tells = c.tokens.invariant.1.0 rule begin shows in
    (told-end rule begin (λ ts. Measures c.args.report.now.text.now c.tokens.bytes c.tokens.before ts × (c.tokens.clean ≡ list_all has_no_error ts)) c.tokens.reader c.read_into.new.self
    (option_map spanned_view c.read_into.new.slot) _ tells (c.in_ok-read_into.ensures.reads rule begin tells.tokens tells.shows) c.if-branch.false).0.1

pub returns-clause-read : goal.returns-clause-read
returns-clause-read c = λ rule begin shows.
    let tells = c.tokens.invariant.1.0 rule begin shows in
    (told-end rule begin (λ ts. Measures c.args.report.now.text.now c.tokens.bytes c.tokens.before ts × (c.tokens.clean ≡ list_all has_no_error ts)) c.tokens.reader c.read_into.new.self
    (option_map spanned_view c.read_into.new.slot) _ tells (c.in_ok-read_into.ensures.reads rule begin tells.tokens tells.shows) c.if-branch.false).1

pub returns-clause-kept : goal.returns-clause-kept
returns-clause-kept c = λ rule begin shows none.
    let tells = c.tokens.invariant.1.1 rule begin shows none in
    (told-end rule begin (FlatMaps (λ (t : SpannedView). refusal_of t.token) (map error_view c.tokens.errors.items)) c.tokens.reader c.read_into.new.self (option_map spanned_view c.read_into.new.slot) _ tells
    (c.in_ok-read_into.ensures.reads rule begin tells.tokens tells.shows) c.if-branch.false).0
