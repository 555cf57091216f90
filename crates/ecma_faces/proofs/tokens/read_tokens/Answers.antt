use Rattle.std.proofs.Common.{None, ap, map, refl}
use Rattle.std.specs.Prelude.{option_map}
use Rattle.ecma_token.specs.View.{SpannedView, error_view, refusal_of, spanned_view}
use Rattle.ecma_reader.specs.Readers.{FlatMaps}
use Rattle.ecma_reader.proofs.FoldLemmas.{flat_mapped-next, told-end, told-next, told-start}
use Rattle.ecma_report.proofs.ReportLemmas.{adds-none, stays-of, stays-on, stays-same}
use Rattle.ecma_faces.proofs.TokenLemmas.{Told, told-token}
use Rattle.ecma_faces.proofs.tokens.read_tokens.Goals as goal

pub read_into-requires : goal.read_into-requires
read_into-requires g c = record { ready = c.tokens.invariant.0 }

pub tokens-init : goal.tokens-init
tokens-init g c = (
  c.requires.ready,
  (
    stays-same c.args.report.now,
    (
      λ rule begin ask file bytes shows of.
          told-start rule begin (Told ask file bytes (g.W.Write.contents c.args.out.now) (g.W.Write.contents c.args.out.now) c.args.report.now.out.items c.args.report.now.out.items None) c.args.reader.now shows
          (adds-none (g.W.Write.contents c.args.out.now) c.args.report.now.out.items, refl),
      λ rule begin shows none. told-start rule begin (FlatMaps (λ t. refusal_of t.token) (map error_view c.args.errors.now.items)) c.args.reader.now shows (ap (map error_view) none),
    ),
  ),
)

pub tokens-preserved : goal.tokens-preserved
tokens-preserved g c =
    let ok = c.in_ok-read_into.ensures in
    let stays = c.tokens.invariant.1.0 in
    let found = option_map spanned_view c.read_into.new.slot in
    let pushed = stays-on c.args.report.now c.tokens.report c.push_slot.new.report stays c.in_ok-previous.ensures.stays in (
      ok.ready c.if-branch.true,
      (
        stays-on c.args.report.now c.push_slot.new.report c.pass_on.new.self pushed c.in_ok-pass_on.ensures.stays,
        (
          λ rule begin ask file bytes shows of.
              let tells = c.tokens.invariant.1.1.0 rule begin ask file bytes shows of in
              let here = stays-of ask file bytes c.args.report.now c.tokens.report stays of in
              told-next rule begin
              (Told ask file bytes (g.W.Write.contents c.args.out.now) (g.W.Write.contents c.tokens.out) c.args.report.now.out.items c.tokens.report.out.items c.tokens.previous)
              (Told ask file bytes (g.W.Write.contents c.args.out.now) (g.W.Write.contents c.pass_on.new.out) c.args.report.now.out.items c.pass_on.new.self.out.items c.in_ok-previous.previous)
              c.tokens.reader c.read_into.new.self found _ tells (ok.reads rule begin tells.tokens tells.shows) c.if-branch.true
              (λ t is told. told-token ask file bytes (g.W.Write.contents c.args.out.now) (g.W.Write.contents c.tokens.out) (g.W.Write.contents c.pass_on.new.out) c.args.report.now.out.items c.tokens.report.out.items c.push_slot.new.report.out.items c.pass_on.new.self.out.items
              c.tokens.previous c.in_ok-previous.previous found tells.tokens t told is (c.in_ok-previous.ensures.added ask file bytes here) c.in_ok-previous.ensures.kind c.in_ok-pass_on.ensures.adds),
          λ rule begin shows none.
              let tells = c.tokens.invariant.1.1.1 rule begin shows none in
              flat_mapped-next (λ (t : SpannedView). refusal_of t.token) rule begin (map error_view c.tokens.errors.items) (map error_view c.keep_error.new.errors.items) c.tokens.reader c.read_into.new.self found _ tells
              (ok.reads rule begin tells.tokens tells.shows) c.if-branch.true c.in_ok-keep_error.ensures,
        ),
      ),
    )

pub returns-clause-rows : goal.returns-clause-rows
returns-clause-rows g c = λ rule begin ask file bytes shows of.
    let tells = c.tokens.invariant.1.1.0 rule begin ask file bytes shows of in
    let found = option_map spanned_view c.read_into.new.slot in
    (told-end rule begin
    (Told ask file bytes (g.W.Write.contents c.args.out.now) (g.W.Write.contents c.tokens.out) c.args.report.now.out.items c.tokens.report.out.items c.tokens.previous)
    c.tokens.reader c.read_into.new.self found _ tells (c.in_ok-read_into.ensures.reads rule begin tells.tokens tells.shows) c.if-branch.false).0.0

pub returns-clause-kept : goal.returns-clause-kept
returns-clause-kept g c = λ rule begin shows none.
    let tells = c.tokens.invariant.1.1.1 rule begin shows none in
    (told-end rule begin (FlatMaps (λ (t : SpannedView). refusal_of t.token) (map error_view c.tokens.errors.items)) c.tokens.reader c.read_into.new.self (option_map spanned_view c.read_into.new.slot) _ tells
    (c.in_ok-read_into.ensures.reads rule begin tells.tokens tells.shows) c.if-branch.false).0

pub returns-clause-read : goal.returns-clause-read
returns-clause-read g c = λ rule begin shows none.
    let tells = c.tokens.invariant.1.1.1 rule begin shows none in
    (told-end rule begin (FlatMaps (λ (t : SpannedView). refusal_of t.token) (map error_view c.tokens.errors.items)) c.tokens.reader c.read_into.new.self (option_map spanned_view c.read_into.new.slot) _ tells
    (c.in_ok-read_into.ensures.reads rule begin tells.tokens tells.shows) c.if-branch.false).1
