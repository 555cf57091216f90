use Rattle.ecma_place.specs.Character.{is_white_space, is_line_terminator}
use Rattle.ecma_place.specs.Run.{is_white_byte}
use Rattle.ecma_place.proofs.ChunkLemmas.{white_ascii, chunk-HasPlace}
use Rattle.ecma_place.proofs.RunLemmas.{FlagsRun, run-start, flag-start}
use Rattle.std.proofs.Common.{◌∙◌, ap, arith}
use Rattle.std.specs.List.{prefix_len}
use Rattle.ecma_gap.proofs.WhiteLemmas.{chunk-run-on, chunk-flags-on, chunk-shorter}
use Rattle.ecma_gap.proofs.white_space.pass_white_chunks.Goals as goal

pub chunks-init : goal.chunks-init
chunks-init c = (run-start is_white_space _, flag-start is_white_space is_line_terminator _)

pub bump_bytes-requires : goal.bump_bytes-requires
bump_bytes-requires c = chunk-HasPlace is_white_byte 16 _ _ white_ascii (c.white_lanes-count.ensures.count ∙ ap (prefix_len is_white_byte) c.in-Some.ensures.bytes.0)

pub chunks-smaller : goal.chunks-smaller
chunks-smaller c = chunk-shorter _ _ _ _ c.in-Some.ensures.bytes.0 c.white_lanes-count.ensures.count c.bump_bytes.ensures (omega (arith, c.if-count-lt16.false))

pub chunks-preserved : goal.chunks-preserved
chunks-preserved c = (
  chunk-run-on _ _ _ _ _ c.in-Some.ensures.bytes.0 c.white_lanes-count.ensures.count c.bump_bytes.ensures c.chunks.invariant.0,
  chunk-flags-on _ _ _ _ _ _ _ c.in-Some.ensures.bytes.0 c.white_lanes-count.ensures.count c.white_lanes-count.ensures.ends c.bump_bytes.ensures c.chunks.invariant.1,
)

pub returns-then-count-lt16-clause-same_end : goal.returns-then-count-lt16-clause-same_end
returns-then-count-lt16-clause-same_end c =
    (chunk-run-on _ _ _ _ _ c.in-Some.ensures.bytes.0 c.white_lanes-count.ensures.count c.bump_bytes.ensures c.chunks.invariant.0).same_end

pub returns-then-count-lt16-clause-flag : goal.returns-then-count-lt16-clause-flag
unfolding FlagsRun
returns-then-count-lt16-clause-flag c =
    chunk-flags-on _ _ c.args.input.now _ _ _ _ c.in-Some.ensures.bytes.0 c.white_lanes-count.ensures.count c.white_lanes-count.ensures.ends c.bump_bytes.ensures c.chunks.invariant.1

pub returns-in_default-clause-flag : goal.returns-in_default-clause-flag
unfolding FlagsRun
returns-in_default-clause-flag c = c.chunks.invariant.1
