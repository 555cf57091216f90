use Rattle.std.proofs.Common.{◌≡◌, ◌++◌, Some, length, map, sym, ap, ◌∙◌, arith, true≢false}
use Rattle.ecma_place.specs.Cursor.{rest, place, passed}
use Rattle.ecma_place.proofs.MoveLemmas.{place-passed-le}
use Rattle.ecma_token.specs.View.{SpannedView, spanned_view}
use Rattle.ecma_reads.specs.Found.{fault_view}
use Rattle.ecma_reads.specs.Gaps.{gap_faults_at, gap_spelling, has_line_break}
use Rattle.ecma_reads.specs.Comments.{comments_at}
use Rattle.ecma_state.specs.Mode.{gap_mode}
use Rattle.ecma_state.specs.Reading.{behind_gap, gap_in, is_free_behind, spanned}
use Rattle.ecma_state.specs.TokenAt.{token_at, token_comments, token_found}
use Rattle.ecma_reads.proofs.ReadingLemmas.{free-reading, free-token, reading-some}
use Rattle.ecma_dispatch.proofs.read.read_code.Goals as goal

pub token_at-requires : goal.token_at-requires
token_at-requires c =
    let mode = c.args.mode.now in
    let gap : c.scan_gap.new.input ≡ behind_gap mode c.args.input.now = rw c.gap_mode.ensures at c.in_ok-gap.ensures.moved in
    let further = place-passed-le c.args.input.now c.scan_gap.new.input (length (gap_spelling (gap_mode mode) (rest c.args.input.now))) gap in
    record { first = sym c.in-Some.ensures.first; opened = omega (arith, c.requires, further) }

pub returns-in_err-found-clause-free : goal.returns-in_err-found-clause-free
returns-in_err-found-clause-free c =
    let mode = c.args.mode.now in
    let here = c.scan_gap.new.input in
    let gap : here ≡ behind_gap mode c.args.input.now = rw c.gap_mode.ensures at c.in_ok-gap.ensures.moved in
    let flag : c.in_ok-gap.gap.line_break ≡ has_line_break (gap_mode mode) (rest c.args.input.now) = rw c.gap_mode.ensures at c.in_ok-gap.ensures.line_break in
    λ h.
    let free = free-reading mode c.args.input.now h in
    let token = ap (λ there. is_free_behind mode (has_line_break (gap_mode mode) (rest c.args.input.now)) (rest there)) gap ∙ free.token in
    absurd (true≢false (sym (c.in_err-found.ensures.free (rw flag (free-token mode _ (rest here) c.in-Some.c (sym c.in-Some.ensures.first) token)))))

pub returns-clause-found : goal.returns-clause-found
returns-clause-found c =
    let mode = c.args.mode.now in
    let here = c.scan_gap.new.input in
    let reads = reading-some mode c.args.input.now here c.in-Some.c (rw c.gap_mode.ensures at c.in_ok-gap.ensures.moved) (sym c.in-Some.ensures.first) in
    let flag : c.in_ok-gap.gap.line_break ≡ has_line_break (gap_mode mode) (rest c.args.input.now) = rw c.gap_mode.ensures at c.in_ok-gap.ensures.line_break in
    let given : spanned_view c.spanned_token-token.result.0 ≡ spanned c.in_ok-gap.gap.line_break (token_found mode c.in_ok-gap.gap.line_break (place here) (rest here)) =
    c.spanned_token-token.ensures.token ∙ ap (spanned c.in_ok-gap.gap.line_break) c.in_ok-found.ensures.found in
    ap (λ (t : SpannedView). Some t) (given ∙ ap (λ x. spanned x (token_found mode x (place here) (rest here))) flag) ∙ ap (λ r. r.found) (sym reads)

pub returns-clause-besides : goal.returns-clause-besides
returns-clause-besides c =
    let mode = c.args.mode.now in
    let here = c.scan_gap.new.input in
    let input = c.args.input.now in
    let reads = reading-some mode input here c.in-Some.c (rw c.gap_mode.ensures at c.in_ok-gap.ensures.moved) (sym c.in-Some.ensures.first) in
    let flag : c.in_ok-gap.gap.line_break ≡ has_line_break (gap_mode mode) (rest input) = rw c.gap_mode.ensures at c.in_ok-gap.ensures.line_break in
    let gap = gap_in mode (place input) (rest input) in
    let of_gap : map fault_view c.in_ok-gap.gap.faults.items ≡ gap.faults = c.in_ok-gap.ensures.faults ∙ ap (λ m. gap_faults_at (place input) m (rest input)) c.gap_mode.ensures in
    let said : c.in_ok-gap.gap.comments.items ≡ gap.comments = c.in_ok-gap.ensures.comments ∙ ap (λ m. comments_at (place input) m (rest input)) c.gap_mode.ensures in
    let of_token : map fault_view c.spanned_token-token.result.1.items ≡ (token_found mode gap.line_break (place here) (rest here)).faults =
    ap (map fault_view) c.spanned_token-token.ensures.faults
    ∙ ap (λ f. f.faults) c.in_ok-found.ensures.found
    ∙ ap (λ x. (token_found mode x (place here) (rest here)).faults) flag in
    let more : c.in_ok-found.field-0.comments.items ≡ token_comments mode gap.line_break (place here) (rest here) =
    c.in_ok-found.ensures.comments ∙ ap (λ x. token_comments mode x (place here) (rest here)) flag in
    record {
      end_flag = flag ∙ ap (λ r. r.end_flag) (sym reads);
      faults =
          ap (λ a. a ++ map fault_view c.spanned_token-token.result.1.items) of_gap
          ∙ ap (λ b. gap.faults ++ b) of_token
          ∙ ap (λ r. r.faults) (sym reads);
      comments =
          ap (λ x. x ++ c.in_ok-found.field-0.comments.items) said
          ∙ ap (λ y. gap.comments ++ y) more
          ∙ ap (λ r. r.comments) (sym reads);
    }

pub returns-clause-moved : goal.returns-clause-moved
returns-clause-moved c =
    let mode = c.args.mode.now in
    let here = c.scan_gap.new.input in
    let reads = reading-some mode c.args.input.now here c.in-Some.c (rw c.gap_mode.ensures at c.in_ok-gap.ensures.moved) (sym c.in-Some.ensures.first) in
    let flag : c.in_ok-gap.gap.line_break ≡ has_line_break (gap_mode mode) (rest c.args.input.now) = rw c.gap_mode.ensures at c.in_ok-gap.ensures.line_break in
    c.in_ok-found.ensures.moved
    ∙ ap (λ x. passed (length (token_at mode x (rest here)).spelling) here) flag
    ∙ ap (λ r. r.input) (sym reads)
