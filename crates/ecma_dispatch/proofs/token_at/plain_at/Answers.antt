use Rattle.std.proofs.Common.{◌≡◌, true}
use Rattle.ecma_place.specs.Cursor.{rest}
use Rattle.ecma_state.specs.TokenAt.{is_free_token, read_opened}
use Rattle.ecma_state.specs.declared.lookahead.Lookahead.TheVariants as opens
use Rattle.ecma_reads.proofs.TokenLemmas.{borrowed-token, free-parts}
use Rattle.ecma_dispatch.proofs.token_at.plain_at.Goals as goal

pub returns-in-String-clause-free : goal.returns-in-String-clause-free
returns-in-String-clause-free c = λ h.
    let text = rest c.args.input.now in
    let s = read_opened opens.String c.args.mode.now text in
    let free : is_free_token opens.String text s ≡ true = rw c.in-String.is at h in
    let parts = free-parts opens.String text s free in
    let token = borrowed-token text s parts.none in
    c.scan_string.ensures.free token.0 token.1 token.2 parts.faults

pub returns-in-Other-clause-free : goal.returns-in-Other-clause-free
returns-in-Other-clause-free c = λ h.
    let text = rest c.args.input.now in
    let s = read_opened opens.Other c.args.mode.now text in
    let free : is_free_token opens.Other text s ≡ true = rw c.in-Other.is at h in
    c.punctuator_at.ensures.free (free-parts opens.Other text s free).ok
