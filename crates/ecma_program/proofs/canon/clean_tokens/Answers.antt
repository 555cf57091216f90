use Rattle.std.proofs.Common.{◌∙◌, ◌&&◌, not, inl, ap}
use Rattle.std.specs.List.{list_all}
use Rattle.ecma_state.specs.Session.{lexer_state}
use Rattle.ecma_state.specs.State.{is_error}
use Rattle.ecma_state.specs.TokenAt.{is_empty}
use Rattle.ecma_program.proofs.Keeping.{canon-unclean, told-clean}
use Rattle.ecma_program.proofs.canon.clean_tokens.Goals as goal

pub returns-then-is_clean : goal.returns-then-is_clean
returns-then-is_clean c =
    let (s, opened, stands) = c.in_ok-opened.ensures in
    let all = c.in_ok-kept.ensures in
    let kept_there = all.tokens s stands in
    let told =
    c.is_clean.ensures
    ∙ ap (λ kept. list_all (λ k. not (is_error k.kind)) kept && is_empty (lexer_state c.keep_tokens.new.opened.lexer).errors.recorded) c.deref.ensures.value in
    let clean = told-clean s c.in_ok-kept.kept.items (lexer_state c.keep_tokens.new.opened.lexer).errors c.is_clean.result stands.plain kept_there (all.errors s stands) told in
    record { session = s; opened = opened; clean = clean ∙ c.if-is_clean.true; kept_there = kept_there }

pub returns : goal.returns
returns c =
    let (s, opened, stands) = c.in_ok-opened.ensures in
    let all = c.in_ok-kept.ensures in
    let kept_there = all.tokens s stands in
    let told =
    c.is_clean.ensures
    ∙ ap (λ kept. list_all (λ k. not (is_error k.kind)) kept && is_empty (lexer_state c.keep_tokens.new.opened.lexer).errors.recorded) c.deref.ensures.value in
    let clean = told-clean s c.in_ok-kept.kept.items (lexer_state c.keep_tokens.new.opened.lexer).errors c.is_clean.result stands.plain kept_there (all.errors s stands) told in
    inl (canon-unclean c.args.options c.args.rereads.now c.args.text.now s opened (clean ∙ c.if-is_clean.false))
