use Rattle.std.proofs.Common.{◌≡◌, ◌∙◌, ◌≤◌, ap, arith, sym}
use Rattle.std.specs.Prelude.{slice_range}
use Rattle.ecma_positions.specs.Units.{utf16_length}
use Rattle.ecma_print.proofs.LineLemmas.{few-units, more-units, slice-long}
use Rattle.ecma_print.proofs.units.Units.counted.Goals as goal

pub returns : goal.returns
returns c = λ counts order within.
    let bytes = c.args.bytes.now in
    let units = c.args.self.now in
    let start = c.args.start in
    let place = c.args.place in
    let same : start ≡ units.start = omega (arith, c.if-start-self.false) in
    let before : units.count ≡ utf16_length (slice_range bytes start units.place) = counts.count ∙ ap (λ n. utf16_length (slice_range bytes n units.place)) (sym same) in
    let more : c.utf16_length-more.result ≡ utf16_length (slice_range bytes units.place place) = c.utf16_length-more.ensures ∙ ap utf16_length c.part-2.ensures in
    let le : units.place ≤ place = omega (arith, c.if-place-self.false) in
    let low : start ≤ units.place = omega (arith, same, counts.order) in
    let whole = more-units bytes start units.place place low le within in
    let few = few-units (slice_range bytes start place) in
    let long = slice-long bytes start place order within in
    omega (arith, c.saturating_add.ensures, before, more, whole, few, long, within, c.requires)
