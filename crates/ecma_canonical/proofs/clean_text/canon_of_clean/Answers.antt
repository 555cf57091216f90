use Rattle.std.proofs.Common.{refl, string_bytes}
use Rattle.std.specs.Str.{chars}
use Rattle.ecma_canonical.proofs.CleanLemmas.{text-fits, text-is, text-too_long}
use Rattle.ecma_canonical.proofs.clean_text.canon_of_clean.Goals as goal

pub returns-then-fits : goal.returns-then-fits
returns-then-fits c = λ settings steps keeps clean.
    let text = chars c.args.source.now in
    let bytes = text-is settings c.args.start.0 text steps c.args.kept.now (string_bytes c.in_ok-text.text) keeps c.in_ok-text.ensures in
    text-fits settings c.args.start.0 text steps clean (string_bytes c.in_ok-text.text) c.as_str.result.now bytes c.as_str.ensures.value (c.if-fits.ensures.0 refl)

pub returns-else-fits : goal.returns-else-fits
returns-else-fits c = λ settings steps keeps clean.
    let text = chars c.args.source.now in
    let bytes = text-is settings c.args.start.0 text steps c.args.kept.now (string_bytes c.in_ok-text.text) keeps c.in_ok-text.ensures in
    text-too_long settings c.args.start.0 text steps clean (string_bytes c.in_ok-text.text) c.as_str.result.now bytes c.as_str.ensures.value (λ below. let never = c.if-fits.ensures.1 below in cc)
