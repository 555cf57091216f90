-- Tokens that were passed hold no byte.
use Rattle.std.proofs.Common.{◌≡◌, ◌-◌, drop, length}
use Rattle.ecma_classes.specs.Classes.{token_spans}
use Rattle.ecma_classes.proofs.marks.first_token.Given as goal

abbrev pub invariant-tokens : goal.invariant-tokens
invariant-tokens l = token_spans (drop l.from l.tokens) ≡ token_spans l.tokens

abbrev pub decreases-tokens : goal.decreases-tokens
decreases-tokens l = length l.tokens - l.from
