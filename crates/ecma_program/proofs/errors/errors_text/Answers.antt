use Rattle.std.proofs.Common.{◌++◌, sym, ap, map, ◌∙◌}
use Rattle.std.specs.Prelude.{flat_map}
use Rattle.ecma_token.specs.View.{spanned_view}
use Rattle.ecma_state.specs.Session.{lexer_state}
use Rattle.ecma_program.specs.ErrorLines.{token_lines}
use Rattle.ecma_program.proofs.Listing.{errors-end, errors-next, listed-plain, listed-start, some-less}
use Rattle.ecma_program.proofs.errors.errors_text.Goals as goal

pub tokens-init : goal.tokens-init
tokens-init c =
    let (s, opened, stands) = c.in_ok-lexer.ensures in
    listed-start c.args.options c.args.rereads.now c.args.text.now token_lines c.push_refusals.new.out.items s c.in_ok-lexer.field-0 opened stands
    (c.in_ok-push_refusals.ensures
    ∙ ap (λ front. front ++ flat_map token_lines (map spanned_view c.deref.result.now)) c.new-out.ensures.items
    ∙ ap (λ items. flat_map token_lines (map spanned_view items)) c.deref.ensures.value)

pub tokens-smaller : goal.tokens-smaller
tokens-smaller c =
    let read = c.in_ok-push_next.ensures in
    let plain = listed-plain c.args.options c.args.rereads.now c.args.text.now token_lines (lexer_state c.tokens.lexer) c.tokens.out.items c.tokens.invariant in
    some-less (lexer_state c.tokens.lexer) (lexer_state c.push_next.new.lexer) plain (sym read.more ∙ c.if-branch.true) read.after

pub tokens-preserved : goal.tokens-preserved
tokens-preserved c =
    let read = c.in_ok-push_next.ensures in
    errors-next c.args.options c.args.rereads.now c.args.text.now (lexer_state c.tokens.lexer) (lexer_state c.push_next.new.lexer) c.tokens.out.items c.push_next.new.out.items
    c.tokens.invariant (sym read.more ∙ c.if-branch.true) read.after read.lines

pub returns : goal.returns
returns c =
    let read = c.in_ok-push_next.ensures in
    errors-end c.args.options c.args.rereads.now c.args.text.now (lexer_state c.tokens.lexer) (lexer_state c.push_next.new.lexer) c.tokens.out.items c.push_next.new.out.items c.push_lists.new.out.items
    c.tokens.invariant (sym read.more ∙ c.if-branch.false) read.after read.lines c.in_ok-push_lists.ensures
