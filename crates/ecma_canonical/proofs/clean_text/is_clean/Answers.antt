use Rattle.std.proofs.Common.{◌∙◌, ◌==◌, ◌&&◌, true, false, not, length, sym, ap, map}
use Rattle.std.specs.List.{list_all}
use Rattle.ecma_replay.specs.Replay.{answer_view}
use Rattle.ecma_state.specs.State.{is_error}
use Rattle.ecma_canonical.specs.Watching.{followed_all, nothing_watched}
use Rattle.ecma_canonical.proofs.CleanLemmas.{told-clean}
use Rattle.ecma_canonical.proofs.clean_text.is_clean.Goals as goal

pub returns-then-are_clean : goal.returns-then-are_clean
returns-then-are_clean c = λ settings input replays.
    let answers = c.as_slice.ensures.value in
    c.ends_clean.ensures
    ∙ ap (λ kept. c.args.played.now.ended && (list_all (λ k. not (is_error k.kind)) kept && (length c.args.played.now.errors == 0))) c.as_slice-kept.ensures.value
    ∙ told-clean settings input c.args.steps.now c.args.played.now true replays (sym c.if-are_clean.true ∙ c.in_ok-are_clean.ensures ∙ ap (λ given. (followed_all nothing_watched c.args.steps.now (map answer_view given)).watch.is_clean) answers)

pub returns-else-are_clean : goal.returns-else-are_clean
returns-else-are_clean c = λ settings input replays.
    let answers = c.as_slice.ensures.value in
    c.if-are_clean.false ∙ told-clean settings input c.args.steps.now c.args.played.now false replays (sym c.if-are_clean.false ∙ c.in_ok-are_clean.ensures ∙ ap (λ given. (followed_all nothing_watched c.args.steps.now (map answer_view given)).watch.is_clean) answers)
