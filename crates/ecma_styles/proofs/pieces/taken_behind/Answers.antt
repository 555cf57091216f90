use Rattle.std.proofs.Common.{◌∙◌, drop, sym, ap}
use Rattle.ecma_styles.specs.Styles.{left_classes}
use Rattle.ecma_styles.proofs.ClassLemmas.{one-taken}
use Rattle.ecma_styles.proofs.pieces.taken_behind.Goals as goal

pub returns-in-Token : goal.returns-in-Token
returns-in-Token c =
    one-taken c.args.classes.now c.args.taken ∙ sym (ap (λ kind. left_classes kind (drop c.args.taken c.args.classes.now)) c.in-Token.is)
