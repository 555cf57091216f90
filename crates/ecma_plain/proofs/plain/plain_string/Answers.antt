use Rattle.ecma_place.specs.Cursor.{rest}
use Rattle.ecma_reads.specs.Strings.{string_literal}
use Rattle.ecma_state.specs.declared.lookahead.Lookahead.TheVariants as opens
use Rattle.ecma_reads.proofs.TokenLemmas.{borrowed-token, free-parts}
use Rattle.ecma_plain.proofs.plain.plain_string.Goals as goal

pub returns-in_err-found-clause-free : goal.returns-in_err-found-clause-free
returns-in_err-found-clause-free c = λ h.
    let text = rest c.args.input.now in
    let parts = free-parts opens.String text (string_literal text) h in
    let token = borrowed-token text (string_literal text) parts.none in
    let never = c.in_err-found.ensures.free token.0 token.1 token.2 parts.faults in
    cc
