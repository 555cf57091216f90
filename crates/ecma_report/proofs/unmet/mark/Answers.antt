use Rattle.std.proofs.Common.{◌∙◌, ap, sym, true}
use Rattle.std.specs.Prelude.{get_or, is_ok, slice_set}
use Rattle.std.specs.Cmp.{unsigned_ties}
use Rattle.std.specs.Ordering.{is_eq}
use Rattle.std.proofs.lemmas.Bool.{eqb-true}
use Rattle.ecma_reader.proofs.SlashLemmas.{found-among}
use Rattle.ecma_report.proofs.UnmetLemmas.{marked-at, marked-none}
use Rattle.ecma_report.proofs.unmet.mark.Goals as goal

pub returns-in-Ok-clause-marked : goal.returns-in-Ok-clause-marked
returns-in-Ok-clause-marked c = λ has_slash is.
    let place = c.args.place in
    let places = c.args.places.now in
    let i = c.in-Ok.i in
    let same = eqb-true (get_or places i place).0 place.0 (unsigned_ties (get_or places i place).0 place.0 ∙ ap is_eq (c.in-Ok.ensures.ok place)) in
    ap (λ named. slice_set named i (record { place = place; has_slash = true })) is ∙ marked-at has_slash place places i c.requires.in_order c.in-Ok.ensures.bound same

pub returns-in_default-clause-marked : goal.returns-in_default-clause-marked
returns-in_default-clause-marked c = λ has_slash is.
    let place = c.args.place in
    let places = c.args.places.now in
    let found = c.binary_search.ensures in
    is ∙ marked-none has_slash place places (sym (found-among places place c.binary_search.result found.bound found.position c.requires.in_order) ∙ ap is_ok c.in_default.is)
