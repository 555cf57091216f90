use Rattle.std.proofs.Common.{sym, ◌∙◌}
use Rattle.ecma_state.specs.Session.{lexer_state}
use Rattle.ecma_program.proofs.Gathering.{passed-end, passed-next}
use Rattle.ecma_program.proofs.Listing.{some-less}
use Rattle.ecma_program.proofs.comments.read_out.Goals as goal

pub tokens-smaller : goal.tokens-smaller
tokens-smaller c =
    let read = c.in_ok-pass_next.ensures in
    some-less (lexer_state c.tokens.lexer) (lexer_state c.pass_next.new.lexer) c.tokens.invariant.plain (sym read.more ∙ c.if-branch.true) read.after

pub tokens-preserved : goal.tokens-preserved
tokens-preserved c =
    let read = c.in_ok-pass_next.ensures in
    passed-next (lexer_state c.args.lexer.now) (lexer_state c.tokens.lexer) (lexer_state c.pass_next.new.lexer) c.tokens.invariant (sym read.more ∙ c.if-branch.true) read.after

pub returns-clause-comments : goal.returns-clause-comments
returns-clause-comments c s at =
    let read = c.in_ok-pass_next.ensures in
    (passed-end (lexer_state c.args.lexer.now) (lexer_state c.tokens.lexer) (lexer_state c.pass_next.new.lexer) c.tokens.invariant (sym read.more ∙ c.if-branch.false) read.after s at).0
