use Rattle.std.proofs.Common.{◌+◌, arith, drop, length-drop}
use Rattle.std.proofs.lemmas.List.{take_rest}
use Rattle.ecma_show.proofs.LineLemmas.{lines-end, lines-on}
use Rattle.ecma_show.proofs.numbered.push_numbered.Goals as goal

pub lines-preserved : goal.lines-preserved
lines-preserved c =
    let left = c.lines.left.now in
    let end = c.in-Some.end in
    let small = c.lines.invariant.small in
    let high = c.in-Some.ensures.0.high in
    record {
      added = rw (c.in_ok-push_margin.ensures, c.in_ok-behind.ensures.added, c.in_ok-behind.ensures.left, c.in_ok-push.ensures.items, c.in_ok-extend_from_slice.ensures.items)
          (lines-on c.args.text.now c.args.frame c.lines.number (drop c.lines.behind c.args.marks.now) left end c.lines.out.items _ c.in-Some.ensures c.lines.invariant.added);
      small = rw (take_rest left (end + 1)) (omega (arith, length-drop (end + 1) left, small, high));
      within = c.in_ok-behind.ensures.within;
    }

pub returns : goal.returns
returns c =
    let all = lines-end c.args.text.now c.args.frame c.lines.number c.args.marks.now c.lines.behind c.lines.left.now c.lines.out.items _ c.in_default.ensures c.lines.invariant.added in
    grind (arith, all)
