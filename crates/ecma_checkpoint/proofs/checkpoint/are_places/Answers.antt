use Rattle.std.proofs.Common.{◌≤◌, arith}
use Rattle.ecma_place.specs.Cursor.{HasPlace}
use Rattle.ecma_checkpoint.proofs.checkpoint.are_places.Goals as goal

pub returns-then-are_slashes : goal.returns-then-are_slashes
returns-then-are_slashes c =
    let has : HasPlace c.args.input.now c.args.at.0 = c.has_place.ensures.0 c.if-not-has_place.false in
    let off = c.if-opened-at.false in
    let before : c.args.opened.0 ≤ c.args.at.0 = omega (arith, off) in (
      (λ told. record {
        has_place = has;
        opened_before = before;
        slash_reread = c.are_slashes.ensures.0 c.if-are_slashes.true;
        slash_answered = c.are_slashes-then-are_slashes.ensures.0 told;
      }),
      (λ are. c.are_slashes-then-are_slashes.ensures.1 are.slash_answered),
    )
