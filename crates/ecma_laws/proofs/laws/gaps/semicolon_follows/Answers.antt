use Rattle.ecma_grammar_laws.proofs.CommentLaws.{semicolon_is_seen}
use Rattle.ecma_laws.proofs.laws.gaps.semicolon_follows.Goals as goal

pub returns : goal.returns
returns c = semicolon_is_seen
