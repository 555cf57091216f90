use Rattle.std.proofs.Common.{None, refl, subst, sym}
use Rattle.std.specs.Prelude.{option_map}
use Rattle.ecma_token.specs.View.{spanned_view}
use Rattle.ecma_reader.proofs.FoldLemmas.{told-end, told-next, told-start}
use Rattle.ecma_report.specs.Reports.{Adds}
use Rattle.ecma_report.proofs.PartLemmas.{part-none}
use Rattle.ecma_report.proofs.ReportLemmas.{adds-none, stays-of, stays-on, stays-same}
use Rattle.ecma_faces.proofs.JoinedLemmas.{Joins, joins-token}
use Rattle.ecma_faces.proofs.canonical.write_tokens_joined.Goals as goal

pub read_into-requires : goal.read_into-requires
read_into-requires g c = record { ready = c.tokens.invariant.0 }

pub tokens-init : goal.tokens-init
tokens-init g c = (
  c.requires.ready,
  (
    stays-same c.args.report.now,
    λ rule begin ask file bytes shows of.
        told-start rule begin (Joins ask bytes (g.W.Write.contents c.args.out.now) (g.W.Write.contents c.args.out.now) c.args.report.now.out.items c.args.report.now.out.items None) c.args.reader.now shows
        (subst (Adds (g.W.Write.contents c.args.out.now) (g.W.Write.contents c.args.out.now) c.args.report.now.out.items c.args.report.now.out.items) (sym (part-none ask)) (adds-none (g.W.Write.contents c.args.out.now) c.args.report.now.out.items), refl),
  ),
)

pub tokens-preserved : goal.tokens-preserved
tokens-preserved g c =
    let ok = c.in_ok-read_into.ensures in
    let stays = c.tokens.invariant.1.0 in
    let found = option_map spanned_view c.read_into.new.slot in
    let pushed = stays-on c.args.report.now c.tokens.report c.push_joined.new.report stays c.in_ok-push_joined.ensures.stays in (
      ok.ready c.if-branch.true,
      (
        stays-on c.args.report.now c.push_joined.new.report c.pass_on.new.self pushed c.in_ok-pass_on.ensures.stays,
        λ rule begin ask file bytes shows of.
            let tells = c.tokens.invariant.1.1 rule begin ask file bytes shows of in
            let here = stays-of ask file bytes c.args.report.now c.tokens.report stays of in
            told-next rule begin
            (Joins ask bytes (g.W.Write.contents c.args.out.now) (g.W.Write.contents c.tokens.out) c.args.report.now.out.items c.tokens.report.out.items c.tokens.before)
            (Joins ask bytes (g.W.Write.contents c.args.out.now) (g.W.Write.contents c.pass_on.new.out) c.args.report.now.out.items c.pass_on.new.self.out.items c.kind_read-before.result)
            c.tokens.reader c.read_into.new.self found _ tells (ok.reads rule begin tells.tokens tells.shows) c.if-branch.true
            (λ t is told. joins-token ask bytes (g.W.Write.contents c.args.out.now) (g.W.Write.contents c.tokens.out) (g.W.Write.contents c.pass_on.new.out) c.args.report.now.out.items c.tokens.report.out.items c.push_joined.new.report.out.items c.pass_on.new.self.out.items
            c.tokens.before c.kind_read-before.result found tells.tokens t told is (c.in_ok-push_joined.ensures.added ask file bytes here) c.kind_read-before.ensures c.in_ok-pass_on.ensures.adds),
      ),
    )

pub returns-clause-joined : goal.returns-clause-joined
returns-clause-joined g c = λ rule begin ask file bytes shows of.
    let tells = c.tokens.invariant.1.1 rule begin ask file bytes shows of in
    let found = option_map spanned_view c.read_into.new.slot in
    (told-end rule begin
    (Joins ask bytes (g.W.Write.contents c.args.out.now) (g.W.Write.contents c.tokens.out) c.args.report.now.out.items c.tokens.report.out.items c.tokens.before)
    c.tokens.reader c.read_into.new.self found _ tells (c.in_ok-read_into.ensures.reads rule begin tells.tokens tells.shows) c.if-branch.false).0.0
