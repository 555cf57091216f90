use Rattle.std.proofs.Common.{◌∙◌, ap, sym}
use Rattle.ecma_state.specs.Errors.{errors_view}
use Rattle.ecma_state.specs.Session.{lexer_state}
use Rattle.ecma_replay.proofs.GatheredLemmas.{gathers-at}
use Rattle.ecma_replay.proofs.gathered.Gathered.of.Goals as goal

pub returns : goal.returns
returns c = λ begin s steps run shows keeps.
    let errors = c.into_parts-errors.ensures.errors in
    gathers-at begin steps s _ (lexer_state c.args.lexer) run (sym shows) keeps
    (ap (λ e. (errors_view e).recorded) c.errors.view_is ∙ ap (λ e. e.recorded) errors)
    (ap (λ e. (errors_view e).waiting) c.errors.view_is ∙ ap (λ e. e.waiting) errors)
    c.into_parts-errors.ensures.comments c.into_parts-errors.ensures.ended
