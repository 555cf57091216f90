use Rattle.std.proofs.Common.{◌∙◌, ap, sym}
use Rattle.std.specs.Str.{chars}
use Rattle.ecma_place.specs.Cursor.{Cursor}
use Rattle.ecma_slashes.specs.Rereads.{entered, rule_of}
use Rattle.ecma_reader.specs.Outputs.{error_tokens}
use Rattle.ecma_reader.proofs.TextLemmas.{text-run}
use Rattle.ecma_reader.proofs.error_tokens.read_out.Goals as goal

pub returns : goal.returns
returns c =
    let text : Cursor = record { start = c.args.start.0; text = chars c.args.source.now; at = 0 } in
    let rule = rule_of c.args.slashes in
    let first = entered c.args.settings.now c.args.context text in
    let ok = c.in_ok-take_rest.ensures in
    let none = c.new-2.ensures.items in
    let clean = c.new-3.ensures.items in
    let shows = c.in_ok-reader.ensures.shows in
    let lexed = c.gathered-output.ensures rule c.args.settings.now c.args.context text (ok.read rule first shows none clean) (ok.kept rule first shows none clean) in
    record {
      gathers = lexed.gathers;
      rereads = lexed.rereads;
      refusals = ok.errors rule first shows none clean ∙ ap error_tokens (sym (text-run rule c.args.settings.now c.args.context text));
    }
