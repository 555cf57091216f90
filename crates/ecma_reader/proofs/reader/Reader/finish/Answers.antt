use Rattle.std.proofs.Common.{◌∙◌, ap}
use Rattle.ecma_state.specs.Errors.{errors_view}
use Rattle.ecma_reader.proofs.reader.Reader.finish.Goals as goal

pub returns-clause-left : goal.returns-clause-left
returns-clause-left c = λ s at.
    let errors = c.into_parts-errors.ensures.errors ∙ ap (λ l. l.errors) at in
    record {
      errors = ap (λ e. (errors_view e).recorded) c.errors.view_is ∙ ap (λ e. e.recorded) errors;
      waiting = ap (λ e. (errors_view e).waiting) c.errors.view_is ∙ ap (λ e. e.waiting) errors;
      comments = c.into_parts-errors.ensures.comments ∙ ap (λ l. l.comments) at;
      ended = c.into_parts-errors.ensures.ended ∙ ap (λ l. l.state.seen.ended) at;
    }
