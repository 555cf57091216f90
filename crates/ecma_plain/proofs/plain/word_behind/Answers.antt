use Rattle.ecma_place.specs.Cursor.{rest}
use Rattle.ecma_plain.proofs.AloneLemmas.{word-opens}
use Rattle.ecma_plain.proofs.plain.word_behind.Goals as goal

pub returns-clause-token : goal.returns-clause-token
returns-clause-token c = λ mode old code there first begins passes.
    c.word_between.ensures.token mode old (word-opens mode c.args.gap.line_break (rest old) c.args.gap.next first begins code) there passes
