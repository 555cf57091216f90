use Rattle.std.proofs.Common.{◌≡◌, ◌||◌, true, sym, ◌∙◌}
use Rattle.ecma_place.specs.Character.{is_ident_start}
use Rattle.ecma_place.specs.Cursor.{rest}
use Rattle.ecma_place.proofs.MoveLemmas.{place-passed-le}
use Rattle.ecma_token.specs.View.{spanned_view}
use Rattle.ecma_gap.proofs.PlainCommentLemmas.{ahead-more}
use Rattle.ecma_plain.proofs.AloneLemmas.{foreign-opens, past-ascii}
use Rattle.ecma_plain.proofs.PlainLemmas.{foreign-read, passes-parts, some-before}
use Rattle.ecma_plain.proofs.plain.plain_foreign.Goals as goal

pub word_between-requires-clause-before : goal.word_between-requires-clause-before
word_between-requires-clause-before c = rw c.cur_pos-start.ensures (place-passed-le _ _ _ c.in_ok-kind.ensures.moved)

pub returns-clause-found : goal.returns-clause-found
returns-clause-found c =
    let old = c.args.input.now in
    let mid = c.skip_white_space-terminator.new.input in
    let now = c.eat_plain_kind.new.input in
    let mode = c.args.mode.now in
    let ch = c.in_ok-c.c in
    let white = c.skip_white_space-terminator.ensures in
    let first = sym c.in_ok-c.ensures.first in
    let past = past-ascii ch (sym c.is_ascii.ensures ∙ c.if-is_ascii.false) in
    let start : is_ident_start ch ≡ true = sym c.is_ident_start.ensures ∙ c.if-not-is_ident_start.false in
    let passes = sym c.passes_space.ensures ∙ c.if-not-passes_space.false in
    let code = (passes-parts mode.top passes).0 in
    let opened = foreign-opens mode (mode.first || c.skip_white_space-terminator.result) (rest mid) ch first past start code in
    let is = c.word_between.ensures.token mode mid opened c.cur_pos-start.ensures (record { of_kind = c.in_ok-kind.ensures.kind; word = c.in_ok-kind.ensures.word; moved = c.in_ok-kind.ensures.moved }) in
    foreign-read mode old mid now c.skip_white_space-terminator.result ch (spanned_view c.word_between.result.token) c.if-mode.false passes white.moved white.terminator first past c.word_between.ensures.flag is

pub returns-clause-ahead : goal.returns-clause-ahead
returns-clause-ahead c = ahead-more _ c.skip_white_space-terminator.new.input _ (_, c.skip_white_space-terminator.ensures.moved) (_, c.in_ok-kind.ensures.moved)

pub returns-clause-more : goal.returns-clause-more
returns-clause-more c = some-before _ c.skip_white_space-terminator.new.input _ c.in_ok-c.c c.skip_white_space-terminator.ensures.moved (sym c.in_ok-c.ensures.first)
