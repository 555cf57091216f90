use Rattle.std.proofs.Common.{◌∙◌, sym, ap, map, subst}
use Rattle.std.specs.List.{All}
use Rattle.std.specs.Prelude.{encode_utf8_all}
use Rattle.ecma_joined.specs.Canonical.{canonical_of, own_in}
use Rattle.ecma_joined.specs.Joined.{StandsIn}
use Rattle.ecma_options.specs.Begin.{whole}
use Rattle.ecma_program.proofs.CanonAgain.{told-again}
use Rattle.ecma_program.proofs.Keeping.{fits-canon, kept-stand}
use Rattle.ecma_program.proofs.canon.canon_text.Goals as goal

pub canonical_text-requires-clause-stand : goal.canonical_text-requires-clause-stand
canonical_text-requires-clause-stand c =
    subst (All (StandsIn (whole c.args.text.now))) (sym c.deref.ensures.value)
    (kept-stand c.args.options c.args.rereads.now c.args.text.now c.in_ok-kept.kept.items c.in_ok-kept.ensures)

pub returns-clause-told : goal.returns-clause-told
returns-clause-told c =
    let written =
    c.in_ok-canonical_text.ensures ∙ ap (λ kept. encode_utf8_all (canonical_of (map (own_in (whole c.args.text.now)) kept))) c.deref.ensures.value in
    fits-canon (λ out. out.items) c.args.options c.args.rereads.now c.args.text.now c.in_ok-kept.kept.items _ c.fitting.result c.in_ok-kept.ensures written c.fitting.ensures

pub returns-clause-again : goal.returns-clause-again
returns-clause-again c =
    let written =
    c.in_ok-canonical_text.ensures ∙ ap (λ kept. encode_utf8_all (canonical_of (map (own_in (whole c.args.text.now)) kept))) c.deref.ensures.value in
    told-again (λ out. out.items) c.args.options c.args.rereads.now c.args.text.now c.fitting.result c.utf8.text
    (fits-canon (λ out. out.items) c.args.options c.args.rereads.now c.args.text.now c.in_ok-kept.kept.items _ c.fitting.result c.in_ok-kept.ensures written c.fitting.ensures)
