use Rattle.std.proofs.Common.{◌∙◌, [], ◌∷◌, ◌++◌, ap}
use Rattle.ecma_token.specs.View.{spanned_view}
use Rattle.ecma_reader.specs.Readers.{expected_behind}
use Rattle.ecma_modules.specs.Modules.{gathered_with}
use Rattle.ecma_module_reader.specs.Readings.{region_of}
use Rattle.ecma_module_reader.proofs.TokenLemmas.{gathers-on}
use Rattle.ecma_module_reader.proofs.reading.take_token.Goals as goal

pub returns-clause-gathers : goal.returns-clause-gathers
returns-clause-gathers c = λ rule begin tokens options shows so.
    let t = spanned_view c.args.token.now in
    let old = c.args.gathering.now in
    let expected = expected_behind rule begin (tokens ++ t ∷ []) in
    gathers-on rule begin options tokens t old c.take.new.self so
    (c.in_ok-take.ensures
    ∙ ap (λ r. gathered_with old (record { kept = c.of-kept.result; region = r })) (c.in_ok-region.ensures.region rule begin (tokens ++ t ∷ []) shows)
    ∙ ap (λ k. gathered_with old (record { kept = k; region = region_of k.kind expected })) c.of-kept.ensures)
