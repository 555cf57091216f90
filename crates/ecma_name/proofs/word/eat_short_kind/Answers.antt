use Rattle.std.proofs.Common.{◌<◌, ap, sym, ◌∙◌, arith, encode_utf8_all}
use Rattle.ecma_place.specs.Cursor.{rest}
use Rattle.ecma_place.specs.Run.{is_in_class}
use Rattle.ecma_place.specs.declared.run.ByteClass.TheVariants.{Part}
use Rattle.ecma_place.proofs.ChunkLemmas.{chunk-run}
use Rattle.ecma_syntax.specs.Word.{word_of, word_kind}
use Rattle.ecma_name.proofs.ShortReading.{short-word}
use Rattle.ecma_name.proofs.word.eat_short_kind.Goals as goal

pub bump_bytes-requires : goal.bump_bytes-requires
bump_bytes-requires c =
    let bytes = c.in_ok-chunk.ensures.bytes in
    let short : c.part_lanes-length.result < 16 = omega (arith, c.if-length-ge16.false) in
    let run = chunk-run (is_in_class Part) 16 c.part_lanes-length.result (encode_utf8_all (rest c.args.input.now)) (rw bytes.0 at c.part_lanes-length.ensures) short in
    rw run (c.in_ok-chunk.ensures.places Part)

pub returns-clause-kind : goal.returns-clause-kind
returns-clause-kind c =
    let bytes = c.in_ok-chunk.ensures.bytes in
    let short = short-word c.args.input.now c.bump_bytes.new.self _ _ bytes.0 bytes.1 c.part_lanes-length.ensures (omega (arith, c.if-length-ge16.false)) (sym c.is_ascii.ensures ∙ c.if-not-is_ascii.false) c.if-stop-eq92.false c.bump_bytes.ensures in
    c.kind_in-kind.ensures ∙ ap (λ text. word_kind (word_of text)) short.text

pub returns-clause-moved : goal.returns-clause-moved
returns-clause-moved c =
    let bytes = c.in_ok-chunk.ensures.bytes in
    (short-word c.args.input.now c.bump_bytes.new.self _ _ bytes.0 bytes.1 c.part_lanes-length.ensures (omega (arith, c.if-length-ge16.false)) (sym c.is_ascii.ensures ∙ c.if-not-is_ascii.false) c.if-stop-eq92.false c.bump_bytes.ensures).moved

pub returns-clause-plain : goal.returns-clause-plain
returns-clause-plain c =
    let bytes = c.in_ok-chunk.ensures.bytes in
    (short-word c.args.input.now c.bump_bytes.new.self _ _ bytes.0 bytes.1 c.part_lanes-length.ensures (omega (arith, c.if-length-ge16.false)) (sym c.is_ascii.ensures ∙ c.if-not-is_ascii.false) c.if-stop-eq92.false c.bump_bytes.ensures).plain
