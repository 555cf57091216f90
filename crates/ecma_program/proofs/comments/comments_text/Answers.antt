use Rattle.std.proofs.Common.{◌++◌, ◌∙◌, Some, sym, ap}
use Rattle.std.specs.Prelude.{option_map}
use Rattle.ecma_program.specs.CommentLines.{comment_lines, comments_from}
use Rattle.ecma_program.proofs.comments.comments_text.Goals as goal

pub returns : goal.returns
returns c =
    let (s, opened, stands) = c.in_ok-lexer.ensures in
    let read = c.in_ok-read_out.ensures.comments s (sym stands.state) in
    let ended = c.in_ok-read_out.ensures.ended s (sym stands.state) in
    let written =
    c.in_ok-push_comments.ensures
    ∙ ap (λ front. front ++ comment_lines c.deref.result.now) c.new-out.ensures.items
    ∙ ap comment_lines (c.deref.ensures.value ∙ c.in_ok-comments.ensures ended ∙ read) in
    ap (option_map comments_from) opened ∙ ap (λ text. Some text) (sym written)
