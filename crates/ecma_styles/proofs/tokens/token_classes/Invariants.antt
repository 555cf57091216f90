-- The classes so far, and those of the tokens that are left, are all.
use Rattle.std.proofs.Common.{◌≡◌, ◌++◌, drop}
use Rattle.ecma_styles.specs.Tokens.{classes_behind, token_classes}
use Rattle.ecma_styles.proofs.tokens.token_classes.Given as goal

abbrev pub invariant-loop-at : goal.invariant-loop-at
invariant-loop-at l = l.classes.items ++ classes_behind l.track l.earlier l.previous (drop l.at l.kept) ≡ token_classes l.kept
