use Rattle.std.proofs.Common.{◌≡◌, ◌∙◌, [], ◌∷◌, ◌++◌, sym, ap, subst}
use Rattle.ecma_state.specs.Run.{reading_of}
use Rattle.ecma_state.specs.Session.{kept_of, lexer_state}
use Rattle.ecma_program.proofs.Keeping.{KeptSoFar, kept-comments, kept-errors, kept-next, kept-tokens}
use Rattle.ecma_program.proofs.Listing.{no-kept, some-kept, token-less}
use Rattle.ecma_program.proofs.kept_tokens.keep_rest.Goals as goal

pub tokens-smaller : goal.tokens-smaller
tokens-smaller c =
    let at = some-kept (reading_of (lexer_state c.tokens.lexer)).found c.in-Some.token (sym c.in-Some.is ∙ c.in_ok-token.ensures.kept) in
    token-less (lexer_state c.tokens.lexer) (lexer_state c.next_kept.new.lexer) at.0 c.tokens.invariant.plain at.1 c.in_ok-token.ensures.after

pub tokens-preserved : goal.tokens-preserved
tokens-preserved c =
    let at = some-kept (reading_of (lexer_state c.tokens.lexer)).found c.in-Some.token (sym c.in-Some.is ∙ c.in_ok-token.ensures.kept) in
    let pushed : c.push.new.self.items ≡ c.tokens.kept.items ++ kept_of at.0 ∷ [] =
    c.in_ok-push.ensures.items ∙ ap (λ k. c.tokens.kept.items ++ k ∷ []) (sym at.2) in
    subst (KeptSoFar (lexer_state c.args.lexer.now) (lexer_state c.next_kept.new.lexer) c.args.kept.now.items) (sym pushed)
    (kept-next (lexer_state c.args.lexer.now) (lexer_state c.tokens.lexer) (lexer_state c.next_kept.new.lexer) c.args.kept.now.items c.tokens.kept.items at.0 c.tokens.invariant at.1 c.in_ok-token.ensures.after)

pub returns-clause-tokens : goal.returns-clause-tokens
returns-clause-tokens c =
    let none = no-kept (reading_of (lexer_state c.tokens.lexer)).found (sym c.in_default.is ∙ c.in_ok-token.ensures.kept) in
    kept-tokens (lexer_state c.args.lexer.now) (lexer_state c.tokens.lexer) _ c.args.kept.now.items c.tokens.kept.items c.tokens.invariant none c.in_ok-token.ensures.after

pub returns-clause-errors : goal.returns-clause-errors
returns-clause-errors c =
    let none = no-kept (reading_of (lexer_state c.tokens.lexer)).found (sym c.in_default.is ∙ c.in_ok-token.ensures.kept) in
    kept-errors (lexer_state c.args.lexer.now) (lexer_state c.tokens.lexer) _ c.args.kept.now.items c.tokens.kept.items c.tokens.invariant none c.in_ok-token.ensures.after

pub returns-clause-comments : goal.returns-clause-comments
returns-clause-comments c s at =
    let none = no-kept (reading_of (lexer_state c.tokens.lexer)).found (sym c.in_default.is ∙ c.in_ok-token.ensures.kept) in
    (kept-comments (lexer_state c.args.lexer.now) (lexer_state c.tokens.lexer) _ c.args.kept.now.items c.tokens.kept.items c.tokens.invariant none c.in_ok-token.ensures.after s at).0

pub returns-clause-ended : goal.returns-clause-ended
returns-clause-ended c s at =
    let none = no-kept (reading_of (lexer_state c.tokens.lexer)).found (sym c.in_default.is ∙ c.in_ok-token.ensures.kept) in
    (kept-comments (lexer_state c.args.lexer.now) (lexer_state c.tokens.lexer) _ c.args.kept.now.items c.tokens.kept.items c.tokens.invariant none c.in_ok-token.ensures.after s at).1
