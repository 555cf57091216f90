use Rattle.std.proofs.Common.{◌∙◌, ap}
use Rattle.ecma_word.specs.Word.{known_of_kind}
use Rattle.ecma_word.proofs.Words.{known_of-kind, ok_or-matches}
use Rattle.ecma_word.proofs.known_ident.KnownIdentFromStr.from_str.Goals as goal

pub returns : goal.returns
returns c = rw c.ok_or.ensures.value (ok_or-matches c.known.result _ (c.known.ensures ∙ ap known_of_kind c.kind_of.ensures ∙ known_of-kind c.args.text.now))
