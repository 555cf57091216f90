use Rattle.std.proofs.Common.{◌+◌, length, refl}
use Rattle.std.specs.Str.{chars}
use Rattle.ecma_classes.specs.Classes.{begin, spans_of_kept}
use Rattle.ecma_classes.specs.Marks.{left, walked}
use Rattle.ecma_classes.proofs.CoverLemmas.{Knows, covers_of}
use Rattle.ecma_classes.proofs.MergeLemmas.{forward}
use Rattle.ecma_classes.proofs.cover.Cover.new.Goals as goal

pub returns : goal.returns
returns c =
    let start = c.args.start.0 in
    let source = c.args.source.now in
    let kept = c.args.kept.now in
    let comments = c.args.comments.now in
    let marks = left c.in_ok-new.field-0 in
    let knows : Knows start source kept comments = record {
      utf8 = c.utf8.source;
      tokens = c.requires.tokens;
      in_order = c.requires.in_order;
      comments-stand = c.requires.comments;
      apart = c.requires.apart;
      well = c.requires.inside_or_outside;
    } in
    let covers = covers_of start source kept comments knows marks (walked start marks (start + length source))
    (c.in_ok-new.ensures start c.requires.in_order (forward (begin start (chars source)) (spans_of_kept kept) c.requires.tokens)) refl in
    record {
      same = covers.same;
      tiles = covers.tiled;
      whole = covers.whole;
      places = covers.places;
      longest = covers.longest;
      empty = λ nothing. covers.none nothing;
    }
