use Rattle.std.proofs.Common.{false, ◌≡◌, ◌++◌, sym, ap, map, ◌∙◌}
use Rattle.std.specs.Prelude.{flat_map}
use Rattle.ecma_token.specs.View.{spanned_view}
use Rattle.ecma_state.specs.Session.{kept_of, lexer_state}
use Rattle.ecma_state.specs.Run.{reading_of}
use Rattle.ecma_program.specs.Lines.{line, lines}
use Rattle.ecma_program.proofs.Listing.{first-within, line_of, lines-end, lines-kept, listed-next, listed-plain, listed-start, no-kept, session_behind-standing, some-kept, token-less, token-within}
use Rattle.ecma_program.proofs.lines.tokens_text.Goals as goal

pub push_lines-requires : goal.push_lines-requires
push_lines-requires c =
    let (s, opened, stands) = c.in_ok-lexer.ensures in
    let standing = session_behind-standing false c.args.options c.args.rereads.now c.args.text.now s opened in
    rw (c.as_bytes.ensures.value, c.deref.ensures.value) (first-within c.args.text.now s c.in_ok-lexer.field-0 c.utf8.text standing stands)

pub tokens-init : goal.tokens-init
tokens-init c =
    let (s, opened, stands) = c.in_ok-lexer.ensures in
    listed-start c.args.options c.args.rereads.now c.args.text.now (line_of c.args.text.now) c.push_lines.new.out.items s c.in_ok-lexer.field-0 opened stands
    (c.in_ok-push_lines.ensures
    ∙ ap (λ front. front ++ lines c.as_bytes.result.now (map kept_of (map spanned_view c.deref.result.now))) c.new-out.ensures.items
    ∙ ap (λ bytes. lines bytes (map kept_of (map spanned_view c.deref.result.now))) c.as_bytes.ensures.value
    ∙ lines-kept c.args.text.now (map spanned_view c.deref.result.now)
    ∙ ap (λ items. flat_map (line_of c.args.text.now) (map spanned_view items)) c.deref.ensures.value)

pub push_line-requires-clause-in_order : goal.push_line-requires-clause-in_order
push_line-requires-clause-in_order c =
    let at = some-kept (reading_of (lexer_state c.tokens.lexer)).found c.in-Some.token (sym c.in-Some.is ∙ c.in_ok-token.ensures.kept) in
    let so = c.tokens.invariant in
    let standing = session_behind-standing false c.args.options c.args.rereads.now c.args.text.now so.session so.opened in
    rw (← at.2) (token-within c.args.text.now so.session c.utf8.text standing so.count (lexer_state c.tokens.lexer) so.state at.0 at.1).0

pub push_line-requires-clause-within : goal.push_line-requires-clause-within
push_line-requires-clause-within c =
    let at = some-kept (reading_of (lexer_state c.tokens.lexer)).found c.in-Some.token (sym c.in-Some.is ∙ c.in_ok-token.ensures.kept) in
    let so = c.tokens.invariant in
    let standing = session_behind-standing false c.args.options c.args.rereads.now c.args.text.now so.session so.opened in
    rw (← at.2, c.as_bytes-in-Some.ensures.value) (token-within c.args.text.now so.session c.utf8.text standing so.count (lexer_state c.tokens.lexer) so.state at.0 at.1).1

pub tokens-smaller : goal.tokens-smaller
tokens-smaller c =
    let at = some-kept (reading_of (lexer_state c.tokens.lexer)).found c.in-Some.token (sym c.in-Some.is ∙ c.in_ok-token.ensures.kept) in
    let plain = listed-plain c.args.options c.args.rereads.now c.args.text.now (line_of c.args.text.now) (lexer_state c.tokens.lexer) c.tokens.out.items c.tokens.invariant in
    token-less (lexer_state c.tokens.lexer) (lexer_state c.next_kept.new.lexer) at.0 plain at.1 c.in_ok-token.ensures.after

pub tokens-preserved : goal.tokens-preserved
tokens-preserved c =
    let at = some-kept (reading_of (lexer_state c.tokens.lexer)).found c.in-Some.token (sym c.in-Some.is ∙ c.in_ok-token.ensures.kept) in
    let pushed : c.push_line.new.out.items ≡ c.tokens.out.items ++ line c.args.text.now (kept_of at.0) =
    c.in_ok-push_line.ensures
    ∙ ap (λ bytes. c.tokens.out.items ++ line bytes c.in-Some.token) c.as_bytes-in-Some.ensures.value
    ∙ ap (λ k. c.tokens.out.items ++ line c.args.text.now k) (sym at.2) in
    listed-next c.args.options c.args.rereads.now c.args.text.now (line_of c.args.text.now) (lexer_state c.tokens.lexer) (lexer_state c.next_kept.new.lexer)
    c.tokens.out.items c.push_line.new.out.items at.0 c.tokens.invariant at.1 c.in_ok-token.ensures.after pushed

pub returns : goal.returns
returns c =
    let none = no-kept (reading_of (lexer_state c.tokens.lexer)).found (sym c.in_default.is ∙ c.in_ok-token.ensures.kept) in
    lines-end c.args.options c.args.rereads.now c.args.text.now (lexer_state c.tokens.lexer) _ c.tokens.out.items c.tokens.invariant none c.in_ok-token.ensures.after
