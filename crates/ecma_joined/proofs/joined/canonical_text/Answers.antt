use Rattle.std.proofs.Common.{sym}
use Rattle.std.specs.Str.{chars}
use Rattle.ecma_place.specs.Cursor.{Cursor}
use Rattle.ecma_clean.specs.Sharing.{begin}
use Rattle.ecma_joined.proofs.JoinedLemmas.{joins_on, last_one-more}
use Rattle.ecma_joined.proofs.joined.canonical_text.Goals as goal

pub kept-preserved : goal.kept-preserved
kept-preserved c =
    let input : Cursor = begin c.args.start.0 (chars c.args.source.now) in
    let so_far = c.kept.invariant in (
      joins_on
          input
          _
          c.args.kept.now
          c.kept.token-index
          _
          _
          _
          _
          _
          _
          _
          c.new-input.ensures
          c.kept-test.true
          so_far.0
          so_far.1
          c.between.ensures
          c.in_ok-push_str.ensures.bytes
          c.slice.ensures
          c.in_ok-push_str-2.ensures.bytes,
      sym (last_one-more input c.args.kept.now c.kept.token-index _ c.kept-test.true),
    )
