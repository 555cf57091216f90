use Rattle.std.proofs.Common.{arith, sym, ◌∙◌}
use Rattle.ecma_state.specs.Session.{lexer_state}
use Rattle.ecma_measure.proofs.Counting.{counted-end, counted-fits, counted-less, counted-next}
use Rattle.ecma_measure.proofs.count.count_tokens.Goals as goal

pub overflow_add-count : goal.overflow_add-count
overflow_add-count c =
    let bound = counted-fits c.args.typescript c.args.text.now c.tokens.count (lexer_state c.tokens.lexer) c.utf8.text c.tokens.invariant in
    omega (arith, bound, c.requires)

pub tokens-smaller : goal.tokens-smaller
tokens-smaller c =
    let read = c.in_ok-pass_next.ensures in
    counted-less c.args.typescript c.args.text.now c.tokens.count (lexer_state c.tokens.lexer) (lexer_state c.pass_next.new.lexer) c.tokens.invariant (sym read.more ∙ c.if-branch.true) read.after

pub tokens-preserved : goal.tokens-preserved
tokens-preserved c =
    let read = c.in_ok-pass_next.ensures in
    counted-next c.args.typescript c.args.text.now c.tokens.count (lexer_state c.tokens.lexer) (lexer_state c.pass_next.new.lexer) c.tokens.invariant (sym read.more ∙ c.if-branch.true) read.after

pub returns : goal.returns
returns c =
    let read = c.in_ok-pass_next.ensures in
    counted-end c.args.typescript c.args.text.now c.tokens.count (lexer_state c.tokens.lexer) (lexer_state c.pass_next.new.lexer) c.tokens.invariant (sym read.more ∙ c.if-branch.false) read.after
