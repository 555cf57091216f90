use Rattle.ecma_string.proofs.PlainStrings.{lanes-HasPlace, lanes-passed}
use Rattle.ecma_string.proofs.string.pass_plain.Goals as goal

pub bump_bytes-requires : goal.bump_bytes-requires
bump_bytes-requires c =
    lanes-HasPlace c.args.quote c.args.input.now c.in-Some.chunk.now c.plain_lanes-length.result c.in-Some.ensures.bytes.0 c.plain_lanes-length.ensures c.if-length-lt16.true c.in-Some.ensures.places

pub returns-then-length-lt16 : goal.returns-then-length-lt16
returns-then-length-lt16 c =
    lanes-passed c.args.quote c.args.input.now c.bump_bytes.new.self c.in-Some.chunk.now c.plain_lanes-length.result c.in-Some.ensures.bytes.0 c.plain_lanes-length.ensures c.if-length-lt16.true c.bump_bytes.ensures
