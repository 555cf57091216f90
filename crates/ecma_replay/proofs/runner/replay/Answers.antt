use Rattle.std.proofs.Common.{rules, ◌≡◌, ◌≤◌, ◌+◌, ◌++◌, ◌∷◌, [], ◌∙◌, ap, length, sym, take, subst}
use Rattle.std.proofs.lemmas.List.{take_all, take_more}
use Rattle.std.specs.Str.{chars}
use Rattle.ecma_place.specs.Cursor.{Cursor}
use Rattle.ecma_state.specs.Run.{start_of}
use Rattle.ecma_replay.specs.Playing.{Follows}
use Rattle.ecma_replay.proofs.ReplayTiling.{replays_tile}
use Rattle.ecma_replay.proofs.runner.replay.Goals as goal

pub steps-preserved : goal.steps-preserved
steps-preserved c =
    let begin = start_of c.args.settings.now record { start = c.args.start.0; text = chars c.args.source.now; at = 0 } in
    let more : take (c.steps.step-index + 1) c.args.steps.now ≡ take c.steps.step-index c.args.steps.now ++ c.step-item.result ∷ [] =
    take_more c.args.steps.now c.steps.step-index _ c.steps-test.true ∙ ap (λ x. take c.steps.step-index c.args.steps.now ++ x ∷ []) (sym c.step-item.is) in
    subst (λ xs. Follows begin xs c.perform.new.answers.items c.perform.new.course) (sym more) (c.in_ok-perform.ensures begin (take c.steps.step-index c.args.steps.now) c.steps.invariant)

pub returns-clause-replays : goal.returns-clause-replays
returns-clause-replays c =
    let input : Cursor = record { start = c.args.start.0; text = chars c.args.source.now; at = 0 } in
    let past : length c.args.steps.now ≤ c.steps.step-index = search rules in
    let all : take c.steps.step-index c.args.steps.now ≡ c.args.steps.now = take_all c.steps.step-index c.args.steps.now past in
    let follows = subst (λ steps. Follows (start_of c.args.settings.now input) steps c.steps.answers.items c.steps.course) all c.steps.invariant in
    let g = c.in_ok-kept.ensures (start_of c.args.settings.now input) c.args.steps.now follows.stands in
    record { answers = follows.answers; kept = g.kept; errors = g.errors; waiting = g.waiting; comments = g.comments; ended = g.ended }

pub returns-clause-tiled : goal.returns-clause-tiled
returns-clause-tiled c =
    let input : Cursor = record { start = c.args.start.0; text = chars c.args.source.now; at = 0 } in
    let past : length c.args.steps.now ≤ c.steps.step-index = search rules in
    let all : take c.steps.step-index c.args.steps.now ≡ c.args.steps.now = take_all c.steps.step-index c.args.steps.now past in
    let follows = subst (λ steps. Follows (start_of c.args.settings.now input) steps c.steps.answers.items c.steps.course) all c.steps.invariant in
    let g = c.in_ok-kept.ensures (start_of c.args.settings.now input) c.args.steps.now follows.stands in
    replays_tile c.args.settings.now input c.args.steps.now record { answers = c.steps.answers; kept = c.in_ok-kept.field-0.kept; errors = c.in_ok-kept.field-0.errors; waiting = c.in_ok-kept.field-0.waiting; comments = c.in_ok-kept.field-0.comments; ended = c.in_ok-kept.field-0.ended }
    record { answers = follows.answers; kept = g.kept; errors = g.errors; waiting = g.waiting; comments = g.comments; ended = g.ended }
