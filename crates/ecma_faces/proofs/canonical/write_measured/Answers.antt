use Rattle.std.proofs.Common.{◌∙◌, None, length, refl, subst, sym}
use Rattle.ecma_reader.specs.Readers.{tokens_by}
use Rattle.ecma_report.specs.Slashes.{rule_at}
use Rattle.ecma_faces.specs.Canonical.{Counted, joined}
use Rattle.ecma_faces.specs.Tokens.{begun}
use Rattle.ecma_faces.specs.Whole.CanonTold.{Bytes, TooLong}
use Rattle.ecma_faces.proofs.CanonicalLemmas.{holds-where, told-text, told-too_long}
use Rattle.ecma_report.proofs.ReportLemmas.{adds-none}
use Rattle.ecma_faces.proofs.canonical.write_measured.Goals as goal

pub returns-in_ok-write_clean-in-Some-clause-told : goal.returns-in_ok-write_clean-in-Some-clause-told
returns-in_ok-write_clean-in-Some-clause-told g c = λ ask file of clean counted.
    let text = c.args.text.now in
    let rule = rule_at c.args.named in
    let own = joined text None (tokens_by rule (begun ask.asked text)) in
    let (is, below) = subst (λ m. Counted m (length own)) c.in-Some.is counted in
    record {
      told = Bytes own;
      is_told = told-text rule ask text c.in-Some.field-0 c.utf8.text c.requires.fits (sym (holds-where c.args.measured.clean c.if-not-measured.false) ∙ clean) is below;
      too_long = c.in_ok-write_clean-in-Some.ensures.stays.too_long;
      holds = c.in_ok-write_clean-in-Some.ensures.adds ask file text of;
    }

pub returns-in-None-clause-told : goal.returns-in-None-clause-told
returns-in-None-clause-told g c = λ ask file of clean counted.
    let text = c.args.text.now in
    let rule = rule_at c.args.named in
    let own = joined text None (tokens_by rule (begun ask.asked text)) in
    record {
      told = TooLong;
      is_told = told-too_long rule ask text c.utf8.text c.requires.fits (sym (holds-where c.args.measured.clean c.if-not-measured.false) ∙ clean) (subst (λ m. Counted m (length own)) c.in-None.is counted);
      too_long = refl;
      holds = adds-none (g.W.Write.contents c.args.out.now) c.args.report.now.out.items;
    }
