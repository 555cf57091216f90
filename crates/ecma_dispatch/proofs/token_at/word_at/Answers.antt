use Rattle.std.proofs.Common.{sym, true≢false}
use Rattle.ecma_place.specs.Cursor.{rest, place}
use Rattle.ecma_reads.specs.Found.{found_view}
use Rattle.ecma_reads.specs.Words.{word}
use Rattle.ecma_reads.proofs.TokenLemmas.{borrowed-name, word-found}
use Rattle.ecma_dispatch.proofs.token_at.word_at.Goals as goal

pub returns-in_err-found-clause-free : goal.returns-in_err-found-clause-free
returns-in_err-found-clause-free c = λ h.
    let name = borrowed-name (rest c.args.input.now) h in
    absurd (true≢false (sym (c.in_err-found.ensures.free name.0 name.1 name.2)))

pub returns-clause-found : goal.returns-clause-found
returns-clause-found c =
    word-found (place c.args.input.now) (word c.args.mode.now.context (rest c.args.input.now)) (found_view (λ w. w) c.in_ok-found.found) _ c.in_ok-found.ensures.found c.word_token.ensures
