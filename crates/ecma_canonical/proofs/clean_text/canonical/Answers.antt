use Rattle.std.proofs.Common.{◌∙◌, subst, sym}
use Rattle.std.specs.List.{All}
use Rattle.std.specs.Str.{chars}
use Rattle.ecma_joined.specs.Sharing.{IsReadCleanly, begin}
use Rattle.ecma_joined.specs.Joined.{StandsIn}
use Rattle.ecma_canonical.proofs.CleanLemmas.{one-each}
use Rattle.ecma_canonical.proofs.KeptPlaces.{replayed_tokens_stand}
use Rattle.ecma_canonical.proofs.clean_text.canonical.Goals as goal

pub is_clean-requires : goal.is_clean-requires
is_clean-requires c =
    one-each c.args.settings.now (begin c.args.start.0 (chars c.args.source.now)) c.args.steps.now c.in_ok-played.played c.in_ok-played.ensures.replays

pub returns-then-not-branch : goal.returns-then-not-branch
returns-then-not-branch c =
    sym (c.in_ok-is_clean.ensures c.args.settings.now (begin c.args.start.0 (chars c.args.source.now)) c.in_ok-played.ensures.replays)
    ∙ c.if-not-branch.true

pub canon_of_clean-requires-clause-stand : goal.canon_of_clean-requires-clause-stand
canon_of_clean-requires-clause-stand c =
    let input = begin c.args.start.0 (chars c.args.source.now) in
    subst (All (StandsIn input)) (sym c.as_slice.ensures.value) (replayed_tokens_stand c.args.settings.now input c.args.steps.now c.in_ok-played.played c.in_ok-played.ensures.replays)

pub returns : goal.returns
returns c =
    let text = chars c.args.source.now in
    let replays = c.in_ok-played.ensures.replays in
    let clean : IsReadCleanly c.args.settings.now c.args.start.0 text c.args.steps.now =
    sym (c.in_ok-is_clean.ensures c.args.settings.now (begin c.args.start.0 text) replays) ∙ c.if-not-branch.false in
    c.canon_of_clean.ensures c.args.settings.now c.args.steps.now (c.as_slice.ensures.value ∙ replays.kept) clean
