use Rattle.ecma_template.proofs.VerbatimPieces.{lanes-HasPlace, lanes-passed, run-passes}
use Rattle.ecma_template.proofs.template.verbatim.pass_run.Goals as goal

pub bump_bytes-requires : goal.bump_bytes-requires
bump_bytes-requires c =
    lanes-HasPlace c.args.input.now c.in-Some.chunk.now c.template_lanes-length.result c.in-Some.ensures.bytes.0 c.template_lanes-length.ensures c.if-length-lt16.true c.in-Some.ensures.places

pub returns-then-length-lt16-clause-moved : goal.returns-then-length-lt16-clause-moved
returns-then-length-lt16-clause-moved c =
    lanes-passed c.args.input.now c.bump_bytes.new.self c.in-Some.chunk.now c.template_lanes-length.result c.in-Some.ensures.bytes.0 c.template_lanes-length.ensures c.if-length-lt16.true c.bump_bytes.ensures

pub returns-then-length-lt16-clause-verbatim : goal.returns-then-length-lt16-clause-verbatim
returns-then-length-lt16-clause-verbatim c =
    run-passes c.args.input.now c.bump_bytes.new.self
    (lanes-passed c.args.input.now c.bump_bytes.new.self c.in-Some.chunk.now c.template_lanes-length.result c.in-Some.ensures.bytes.0 c.template_lanes-length.ensures c.if-length-lt16.true c.bump_bytes.ensures)

pub returns-clause-verbatim : goal.returns-clause-verbatim
returns-clause-verbatim c = run-passes c.args.input.now c.pass_long_run.new.input c.pass_long_run.ensures
