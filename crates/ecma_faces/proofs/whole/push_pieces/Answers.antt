use Rattle.std.proofs.Common.{ap}
use Rattle.ecma_faces.specs.Pieces.{piece_row, piece_rows}
use Rattle.ecma_report.proofs.ReportLemmas.{stays-of, stays-on, stays-same}
use Rattle.ecma_faces.proofs.StreamLemmas.{streams-all, streams-more, streams-none}
use Rattle.ecma_faces.proofs.whole.push_pieces.Goals as goal

pub pieces-init : goal.pieces-init
pieces-init g c = (stays-same c.args.report.now, λ ask file bytes of. streams-none (g.W.Write.contents c.args.out.now) c.args.report.now.out.items (piece_rows ask file bytes c.args.cover.now))

pub pieces-preserved : goal.pieces-preserved
pieces-preserved g c =
    let begun = c.args.report.now in
    let here = c.pieces.report in
    let pushed = c.push_piece.new.report in
    let stays = c.pieces.invariant.0 in (
      stays-on begun pushed c.pass_on.new.self (stays-on begun here pushed stays c.push_piece.ensures.stays) c.in_ok-pass_on.ensures.stays,
      λ ask file bytes of.
          streams-more
          (g.W.Write.contents c.args.out.now) (g.W.Write.contents c.pieces.out) (g.W.Write.contents c.pass_on.new.out)
          begun.out.items here.out.items pushed.out.items c.pass_on.new.self.out.items
          (piece_row ask file bytes c.in-Some.piece) (piece_rows ask file bytes c.pieces.cover) (piece_rows ask file bytes c.next.new.self) (piece_rows ask file bytes c.args.cover.now)
          (c.pieces.invariant.1 ask file bytes of)
          (c.in_ok-push_piece.ensures.added ask file bytes (stays-of ask file bytes begun here stays of))
          (ap (piece_rows ask file bytes) c.in-Some.ensures)
          c.in_ok-pass_on.ensures.adds,
    )

pub returns-clause-adds : goal.returns-clause-adds
returns-clause-adds g c = λ ask file bytes of.
    streams-all (g.W.Write.contents c.args.out.now) (g.W.Write.contents c.pieces.out) c.args.report.now.out.items c.pieces.report.out.items
    (piece_rows ask file bytes c.pieces.cover) (piece_rows ask file bytes c.args.cover.now) (c.pieces.invariant.1 ask file bytes of) (ap (piece_rows ask file bytes) c.in_default.ensures.0)
