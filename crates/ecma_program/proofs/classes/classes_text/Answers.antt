use Rattle.std.proofs.Common.{◌++◌, ◌∙◌, Some, sym, ap}
use Rattle.std.specs.Prelude.{option_map}
use Rattle.ecma_program.specs.ClassLines.{piece_lines}
use Rattle.ecma_program.proofs.classes.classes_text.Goals as goal

pub returns : goal.returns
returns c =
    let written =
    c.in_ok-push_pieces.ensures
    ∙ ap (λ front. front ++ piece_lines c.deref.result.now) c.new-out.ensures.items
    ∙ ap piece_lines c.deref.ensures.value in
    ap (option_map piece_lines) c.in_ok-pieces.ensures ∙ ap (λ text. Some text) (sym written)
