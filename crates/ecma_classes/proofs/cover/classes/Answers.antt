use Rattle.std.proofs.Common.{◌≡◌, ◌+◌, ◌∙◌, ◌++◌, append-nil, ap, length, subst, sym}
use Rattle.std.specs.List.{All}
use Rattle.std.specs.Str.{chars}
use Rattle.ecma_classes.specs.Classes.{StandsIn, Tile, TriviaStandsAlone, begin, joined}
use Rattle.ecma_classes.specs.declared.piece.Piece.{Piece}
use Rattle.ecma_classes.proofs.cover.classes.Goals as goal

pub returns : goal.returns
returns c =
    let start = c.args.start.0 in
    let source = c.args.source.now in
    let made = c.pieces.pieces.items in
    let promised = c.in_ok-cover.ensures in
    let all : made ≡ c.in_ok-cover.cover = sym (append-nil made) ∙ ap (λ l. made ++ l) (sym c.in_default.ensures.0) ∙ c.pieces.invariant in
    record {
      same = all ∙ promised.same;
      tiles = subst (λ l. Tile start l (start + length source)) (sym all) promised.tiles;
      whole = ap (joined start source) all ∙ promised.whole;
      places = subst (All (λ (p : Piece). StandsIn (begin start (chars source)) p.span)) (sym all) promised.places;
      longest = subst TriviaStandsAlone (sym all) promised.longest;
      empty = λ nothing. all ∙ promised.empty nothing;
    }
