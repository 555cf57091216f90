use Rattle.std.proofs.Common.{◌++◌, map, ap, sym, ◌∙◌}
use Rattle.ecma_token.specs.View.{spanned_view}
use Rattle.ecma_reads.specs.Found.{fault_view}
use Rattle.ecma_reads.proofs.ReadingLemmas.{free-kept, shebang-stands}
use Rattle.ecma_dispatch.proofs.read.read_from.Goals as goal

pub returns-in-Some-clause-besides : goal.returns-in-Some-clause-besides
returns-in-Some-clause-besides c =
    let found = rw c.in-Some.is at c.in_ok-token.ensures.found in
    let reads = shebang-stands c.args.mode.now c.args.input.now (spanned_view c.in-Some.token) c.if-not-mode.false found in
    record {
      end_flag = ap (λ r. r.end_flag) (sym reads);
      faults =
          ap (λ faults. map fault_view faults ++ map fault_view c.new-in-Some.result.items) c.new.ensures.items
          ∙ ap (map fault_view) c.new-in-Some.ensures.items
          ∙ ap (λ r. r.faults) (sym reads);
      comments =
          ap (λ comments. comments ++ c.new-in-Some-3.result.items) c.new-in-Some-2.ensures.items
          ∙ c.new-in-Some-3.ensures.items
          ∙ ap (λ r. r.comments) (sym reads);
    }

pub returns-in-None-clause-free : goal.returns-in-None-clause-free
returns-in-None-clause-free c = λ h.
    let found = rw c.in-None.is at c.in_ok-token.ensures.found in
    c.read_code-in-None.ensures.free (free-kept c.args.mode.now c.args.input.now c.shebang_at.new.input found c.in_ok-token.ensures.moved h)
