-- The marks behind the bytes so far were added.
use Rattle.std.proofs.Common.{◌≡◌, ◌++◌, take}
use Rattle.std.specs.Prelude.{flat_map}
use Rattle.ecma_html.specs.Page.{line_mark, mark_behind}
use Rattle.ecma_html.proofs.page.push_marks.Given as goal

abbrev pub invariant-loop-byte : goal.invariant-loop-byte
invariant-loop-byte l = l.out.items ≡ l.fn.out.items ++ (line_mark ++ flat_map mark_behind (take l.byte-index l.bytes))
