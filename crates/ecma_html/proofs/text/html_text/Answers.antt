use Rattle.std.proofs.Common.{refl}
use Rattle.std.specs.Str.{chars}
use Rattle.ecma_classes.specs.Classes.{begin}
use Rattle.ecma_pieces.proofs.CoveredLemmas.{gathered_may_be_covered}
use Rattle.ecma_reader.specs.ByFlag.{text_steps}
use Rattle.ecma_html.proofs.text.html_text.Goals as goal

pub html_of_gathered-requires-clause-covered : goal.html_of_gathered-requires-clause-covered
html_of_gathered-requires-clause-covered c =
    let settings = c.args.settings.now in
    let text = begin 0 (chars c.args.source.now) in
    let gathered = c.in_ok-read.read.gathered in
    gathered_may_be_covered settings text (text_steps settings c.args.context text) gathered gathered.kept.items gathered.comments.items c.in_ok-read.ensures.gathers refl refl
