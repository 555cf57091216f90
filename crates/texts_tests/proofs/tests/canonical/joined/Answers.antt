use Rattle.std.proofs.Common.{subst, sym}
use Rattle.std.specs.List.{All}
use Rattle.std.specs.Str.{chars}
use Rattle.ecma_joined.specs.Joined.{StandsIn}
use Rattle.ecma_clean.specs.Sharing.{begin}
use Rattle.ecma_canonical.proofs.KeptPlaces.{replayed_tokens_stand}
use Rattle.texts_tests.proofs.tests.canonical.joined.Goals as goal

pub canonical_text-requires-clause-stand : goal.canonical_text-requires-clause-stand
canonical_text-requires-clause-stand c =
    let input = begin c.args.start.0 (chars c.args.text.now) in
    subst (All (StandsIn input)) (sym c.deref.ensures.value) (replayed_tokens_stand c.lexer_settings.result input c.args.steps.now c.in_ok-found.found c.in_ok-found.ensures.replays)
