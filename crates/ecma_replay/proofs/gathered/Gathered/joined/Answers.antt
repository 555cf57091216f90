use Rattle.std.proofs.Common.{◌∙◌, ap, map}
use Rattle.ecma_token.specs.View.{error_view}
use Rattle.ecma_state.specs.Errors.{errors_view}
use Rattle.ecma_replay.proofs.GatheredLemmas.{gathers-joined}
use Rattle.ecma_replay.proofs.gathered.Gathered.joined.Goals as goal

pub returns : goal.returns
returns c = λ begin s steps run at.
    gathers-joined begin s steps c.args.trees (record { lexer = c.args.lexer; ways = c.args.ways }) _ c.in_ok-recorded.recorded.items c.in_ok-waiting.waiting.items c.into_vec-5.result.items c.into_vec-6.result.items
    c.in_ok-comments.comments.items c.into_parts-errors.result.1.items run at c.in_ok-kept.ensures c.in_ok-recorded.ensures c.in_ok-waiting.ensures c.in_ok-comments.ensures
    (ap (map error_view) c.into_vec-5.ensures ∙ ap (λ e. (errors_view e).recorded) c.errors.view_is ∙ ap (λ e. e.recorded) c.into_parts-errors.ensures.errors)
    (ap (map error_view) c.into_vec-6.ensures ∙ ap (λ e. (errors_view e).waiting) c.errors.view_is ∙ ap (λ e. e.waiting) c.into_parts-errors.ensures.errors)
    c.into_parts-errors.ensures.comments (c.of.ensures ∙ c.in_ok-joined.ensures) (c.of-2.ensures ∙ c.in_ok-joined-2.ensures) c.in_ok-joined-3.ensures c.into_parts-errors.ensures.ended
