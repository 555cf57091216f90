use Rattle.std.proofs.Common.{◌∙◌, ◌==◌, ◌&&◌, not, length, ap, subst, sym}
use Rattle.std.specs.List.{All, list_all}
use Rattle.std.specs.Str.{chars}
use Rattle.ecma_state.specs.State.{is_error}
use Rattle.ecma_joined.specs.Sharing.{IsReadCleanly, begin}
use Rattle.ecma_joined.specs.Joined.{StandsIn}
use Rattle.ecma_canonical.proofs.CleanLemmas.{gathered-clean}
use Rattle.ecma_canonical.proofs.KeptPlaces.{gathered_tokens_stand}
use Rattle.ecma_canonical.proofs.clean_gathered.canonical_of_gathered.Goals as goal

pub returns-then-not-ends_clean : goal.returns-then-not-ends_clean
returns-then-not-ends_clean c = λ settings steps plainly.
    let gathered = c.args.gathered.now in
    let told =
    c.ends_clean.ensures ∙ ap (λ kept. gathered.ended && (list_all (λ k. not (is_error k.kind)) kept && (length gathered.errors == 0))) c.as_slice-kept.ensures.value in
    sym (gathered-clean settings (begin c.args.start.0 (chars c.args.source.now)) steps gathered plainly.gathers plainly.clean) ∙ sym told ∙ c.if-not-ends_clean.true

pub canon_of_clean-requires-clause-stand : goal.canon_of_clean-requires-clause-stand
canon_of_clean-requires-clause-stand c =
    let (settings, steps, plainly) = c.requires.plain in
    let input = begin c.args.start.0 (chars c.args.source.now) in
    subst (All (StandsIn input)) (sym c.as_slice-kept.ensures.value) (gathered_tokens_stand settings input steps c.args.gathered.now plainly.gathers)

pub returns : goal.returns
returns c = λ settings steps plainly.
    let text = chars c.args.source.now in
    let gathered = c.args.gathered.now in
    let told =
    c.ends_clean.ensures ∙ ap (λ kept. gathered.ended && (list_all (λ k. not (is_error k.kind)) kept && (length gathered.errors == 0))) c.as_slice-kept.ensures.value in
    let clean : IsReadCleanly settings c.args.start.0 text steps =
    sym (gathered-clean settings (begin c.args.start.0 text) steps gathered plainly.gathers plainly.clean) ∙ sym told ∙ c.if-not-ends_clean.false in
    c.canon_of_clean.ensures settings steps (c.as_slice-kept.ensures.value ∙ plainly.gathers.kept) clean
