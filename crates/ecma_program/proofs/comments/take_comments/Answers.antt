use Rattle.std.proofs.Common.{◌∙◌}
use Rattle.ecma_state.specs.Session.{lexer_state}
use Rattle.ecma_program.proofs.Gathering.{handed-all}
use Rattle.ecma_program.proofs.comments.take_comments.Goals as goal

pub returns : goal.returns
returns c ended =
    c.into_vec.ensures
    ∙ handed-all c.new-comments.result c.hand_comments.new.to (lexer_state c.args.lexer.now) (lexer_state c.hand_comments.new.lexer) c.new-comments.ensures
    (c.in_ok-hand_comments.ensures.all ended)
