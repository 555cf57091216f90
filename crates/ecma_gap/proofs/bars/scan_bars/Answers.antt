use Rattle.std.proofs.Common.{◌≡◌, true, false, sym, ◌∙◌}
use Rattle.ecma_place.specs.Cursor.{rest, place}
use Rattle.ecma_gap.proofs.BarsLemmas.{bars-stand, bars-there, bars-absent, bars-passed, bars-kept}
use Rattle.ecma_gap.proofs.bars.scan_bars.Goals as goal

pub returns-then-not-is_str-clause-found : goal.returns-then-not-is_str-clause-found
returns-then-not-is_str-clause-found c =
    bars-absent (place c.args.input.now) c.args.mode.now (rest c.args.input.now) (bars-stand (rest c.args.input.now) _ _ c.is_str.ensures c.if-not-is_str.true)

pub returns-then-not-is_str-clause-moved : goal.returns-then-not-is_str-clause-moved
returns-then-not-is_str-clause-moved c = bars-kept c.args.input.now _ (bars-stand (rest c.args.input.now) _ _ c.is_str.ensures c.if-not-is_str.true)

pub read_bars-requires : goal.read_bars-requires
read_bars-requires c = bars-stand (rest c.args.input.now) _ _ c.is_str.ensures c.if-not-is_str.false

pub returns-in_default-clause-free : goal.returns-in_default-clause-free
returns-in_default-clause-free c =
    λ h. let no : true ≡ false = sym (bars-stand (rest c.args.input.now) _ _ c.is_str.ensures c.if-not-is_str.false) ∙ h in
    cc

pub returns-clause-found : goal.returns-clause-found
returns-clause-found c =
    bars-there (place c.args.input.now) c.args.mode.now (rest c.args.input.now) _ (bars-stand (rest c.args.input.now) _ _ c.is_str.ensures c.if-not-is_str.false) c.in-Ok.ensures.bars

pub returns-clause-moved : goal.returns-clause-moved
returns-clause-moved c = bars-passed c.args.input.now _ _ (bars-stand (rest c.args.input.now) _ _ c.is_str.ensures c.if-not-is_str.false) c.in-Ok.ensures.moved
