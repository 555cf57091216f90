use Rattle.std.specs.Str.{chars}
use Rattle.ecma_place.specs.Cursor.{Cursor}
use Rattle.ecma_slashes.specs.Rereads.{entered, rule_of}
use Rattle.ecma_reader.proofs.tokens.tokenize.Goals as goal

pub returns : goal.returns
returns c =
    let text : Cursor = record { start = c.args.start.0; text = chars c.args.source.now; at = 0 } in
    let rule = rule_of c.args.slashes in
    let first = entered c.args.settings.now c.args.context text in
    let ok = c.in_ok-keep_rest.ensures in
    let none = c.new-kept.ensures.items in
    c.gathered.ensures rule c.args.settings.now c.args.context text (ok.read rule first c.in_ok-reader.ensures.shows none) (ok.kept rule first c.in_ok-reader.ensures.shows none)
