use Rattle.std.proofs.Common.{◌∙◌, ◌<◌, length, take, arith, ap, sym, true≢false}
use Rattle.ecma_comments.proofs.SharedCommentsLemmas.{cut-behind, cut-list, cut-shared, first-length, put-first}
use Rattle.ecma_comments.proofs.shared_comments.SharedComments.truncate.Goals.{in-Some, in_default}
use Rattle.ecma_comments.proofs.shared_comments.SharedComments.truncate.Goals as goal

pub returns-then-len-self : goal.returns-then-len-self
returns-then-len-self c =
    cut-behind _ _ _ _ _ c.self.invariant.counted c.if-len-self.true c.truncate.ensures.items ∙ ap (take c.args.len) c.self.view_is

pub invariant_of-self-2 : goal.invariant_of-self-2
invariant_of-self-2 c =
    elim c.match-cut_block.branch [
      | in-Some w ↦
          let off = c.if-len-self.false in
          let within : c.args.len < c.self.inside.in_blocks = omega (arith, off) in
          let put =
          put-first _ _ _ _ _ w.add_copies.result _ _ _ w.in-Some.ensures.cut c.self.invariant.borrowed w.add_copies.ensures.items w.add_copies.ensures.free c.clear.ensures.items
          (rw (← w.deref.ensures) w.as_slice.ensures.value) in
          let size = w.add_copies.new.to.ok.0 ∙ ap length put ∙ first-length _ _ _ _ _ w.in-Some.ensures.cut in
          rw w.self-inside-is (cut-shared _ _ _ _ _ _ _ _ _ _ w.in-Some.ensures.cut c.self.invariant within size (w.add_copies.ensures.capacity ∙ c.clear.ensures.capacity))
      | in_default w ↦ absurd (true≢false (sym w.in_default.ensures.found))
    ]

pub returns : goal.returns
returns c =
    elim c.match-cut_block.branch [
      | in-Some w ↦
          let put =
          put-first _ _ _ _ _ w.add_copies.result _ _ _ w.in-Some.ensures.cut c.self.invariant.borrowed w.add_copies.ensures.items w.add_copies.ensures.free c.clear.ensures.items
          (rw (← w.deref.ensures) w.as_slice.ensures.value) in
          rw w.self-inside-is (cut-list _ _ _ _ _ _ _ w.in-Some.ensures.cut put ∙ ap (take c.args.len) c.self.view_is)
      | in_default w ↦ absurd (true≢false (sym w.in_default.ensures.found))
    ]
