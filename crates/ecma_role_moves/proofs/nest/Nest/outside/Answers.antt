use Rattle.std.proofs.Common.{add-one, ap, ◌≡◌, ◌≤◌, false, length, Some, ◌∙◌, refl, sym, arith}
use Rattle.std.specs.List.{slice_get}
use Rattle.std.proofs.lemmas.Option.{slice_get_past}
use Rattle.ecma_role_table.specs.Frames.{is_of}
use Rattle.ecma_role_moves.specs.Nest.{kind_in}
use Rattle.ecma_role_moves.proofs.NestLemmas.{outside_at, outside_none}
use Rattle.ecma_role_moves.proofs.nest.Nest.outside.Goals as goal

pub returns-then-not-is_of-clause-top : goal.returns-then-not-is_of-clause-top
returns-then-not-is_of-clause-top c =
    let frames = c.args.self.now.nest.frames in
    let at : kind_in (slice_get frames c.frames.index) ≡ Some c.in-Some.kind = sym c.kind_at.ensures ∙ c.in-Some.is in
    let over : is_of c.args.kinds c.in-Some.kind ≡ false = sym c.if-not-is_of.ensures in
    sym (outside_at c.args.kinds frames c.frames.index c.in-Some.kind c.frames.invariant at over).0

pub returns-then-not-is_of-clause-under : goal.returns-then-not-is_of-clause-under
returns-then-not-is_of-clause-under c =
    let frames = c.args.self.now.nest.frames in
    let at : kind_in (slice_get frames c.frames.index) ≡ Some c.in-Some.kind = sym c.kind_at.ensures ∙ c.in-Some.is in
    let over : is_of c.args.kinds c.in-Some.kind ≡ false = sym c.if-not-is_of.ensures in
    c.kind_at-then-not-is_of.ensures ∙ ap (λ i. kind_in (slice_get frames i)) (add-one c.frames.index) ∙ sym (outside_at c.args.kinds frames c.frames.index c.in-Some.kind c.frames.invariant at over).1

pub returns-clause-top : goal.returns-clause-top
returns-clause-top c =
    let frames = c.args.self.now.nest.frames in
    let past : length frames ≤ c.frames.index = omega (arith, c.frames-test.false, c.depth-index-end.ensures) in
    sym (outside_none c.args.kinds frames c.frames.index 0 c.frames.invariant (rw (slice_get_past frames c.frames.index past) refl))

pub returns-clause-under : goal.returns-clause-under
returns-clause-under c =
    let frames = c.args.self.now.nest.frames in
    let past : length frames ≤ c.frames.index = omega (arith, c.frames-test.false, c.depth-index-end.ensures) in
    sym (outside_none c.args.kinds frames c.frames.index 1 c.frames.invariant (rw (slice_get_past frames c.frames.index past) refl))
