use Rattle.std.proofs.Common.{refl}
use Rattle.std.specs.Str.{chars}
use Rattle.ecma_classes.specs.Classes.{begin}
use Rattle.ecma_pieces.proofs.CoveredLemmas.{gathered_may_be_covered}
use Rattle.ecma_reader.specs.ByFlag.{text_steps}
use Rattle.ecma_imports.proofs.lines.imports_text.Goals as goal

pub imports_of_kept-requires : goal.imports_of_kept-requires
imports_of_kept-requires c =
    let settings = c.args.settings.now in
    let text = begin 0 (chars c.args.source.now) in
    let gathered = c.in_ok-read.read.gathered in
    (gathered_may_be_covered settings text (text_steps settings c.args.context text) gathered c.as_slice.result.now gathered.comments.items c.in_ok-read.ensures.gathers c.as_slice.ensures.value refl).tokens_stand
