use Rattle.std.proofs.Common.{◌∙◌, ◌++◌, None, refl, true}
use Rattle.ecma_state.specs.Session.{kept_tokens}
use Rattle.ecma_modules.specs.Modules.{exports_of, imports_of}
use Rattle.ecma_reader.specs.Readers.{tokens_by}
use Rattle.ecma_faces.specs.Comments.{comment_rows, comments_by}
use Rattle.ecma_report.specs.Errors.{error_rows}
use Rattle.ecma_faces.specs.Modules.{export_rows, import_rows, module_options, tokens_of}
use Rattle.ecma_faces.specs.Pieces.{piece_rows, pieces_by}
use Rattle.ecma_faces.specs.Whole.{canon_written, html_written, shown_head}
use Rattle.ecma_report.specs.Rows.{whole_text}
use Rattle.ecma_report.specs.Runs.{read_to}
use Rattle.ecma_report.specs.Slashes.{rule_at}
use Rattle.ecma_faces.specs.Tokens.{begun, token_rows}
use Rattle.ecma_report.proofs.FaultLemmas.{faults-as, unmet-as}
use Rattle.ecma_report.proofs.ReportLemmas.{flushed-all, keeps-faults, keeps-same}
use Rattle.ecma_faces.proofs.telling.tell.Goals as goal

pub returns : goal.returns
returns g c =
    let first = c.args.report.now in
    let last = c.write_face.new.report in
    let flushed = c.in_ok-flush.ensures in
    let written = flushed-all (g.W.Write.contents c.args.out.now) (g.W.Write.contents c.write_face.new.out) (g.W.Write.contents c.flush.new.out) c.args.report.now.out.items c.write_face.new.report.out.items c.flush.new.self.out.items in
    record {
      tokens = λ ask file bytes of face.
          written (token_rows ask file bytes None (tokens_by (rule_at c.args.named) (begun ask.asked bytes))) (c.in_ok-write_face.ensures.tokens ask file bytes of face) flushed.written flushed.none;
      imports = λ ask file bytes of face.
          written (import_rows ask file bytes (imports_of (module_options ask.asked) (tokens_of c.args.named ask bytes))) (c.in_ok-write_face.ensures.imports ask file bytes of face) flushed.written flushed.none;
      exports = λ ask file bytes of face.
          written (export_rows ask file bytes (exports_of (module_options ask.asked) (tokens_of c.args.named ask bytes))) (c.in_ok-write_face.ensures.exports ask file bytes of face) flushed.written flushed.none;
      comments = λ ask file bytes of face.
          written (comment_rows ask file bytes (comments_by c.args.named ask bytes)) (c.in_ok-write_face.ensures.comments ask file bytes of face) flushed.written flushed.none;
      errors = λ ask file bytes of face.
          let told = c.in_ok-write_face.ensures.errors ask file bytes of face in
          record {
            ordered = told.ordered;
            by_place = told.by_place;
            holds = written (error_rows ask file bytes told.ordered) told.holds flushed.written flushed.none;
          };
      classes = λ ask file bytes of face.
          written (piece_rows ask file bytes (pieces_by c.args.named ask bytes)) (c.in_ok-write_face.ensures.classes ask file bytes of face) flushed.written flushed.none;
      html = λ ask file bytes of face.
          let told = c.in_ok-write_face.ensures.html ask file bytes of face in
          let s = read_to true c.args.named ask bytes in
          record {
            ordered = told.ordered;
            by_place = told.by_place;
            holds = written (html_written ask file bytes (kept_tokens s) s.comments told.ordered) told.holds flushed.written flushed.none;
          };
      shown = λ ask file bytes of face.
          let told = c.in_ok-write_face.ensures.shown ask file bytes of face in
          let lines = told.of_lines in
          record {
            ordered = told.ordered;
            by_place = told.by_place;
            of_lines = record {
              lines = lines.lines;
              is_shown = lines.is_shown;
              holds = written (shown_head ask file ++ whole_text ask file lines.lines) lines.holds flushed.written flushed.none;
            };
          };
      canonical = λ ask file bytes of face.
          let told = c.in_ok-write_face.ensures.canonical ask file bytes of face in
          record {
            told = told.told;
            is_told = told.is_told;
            too_long = flushed.stays.too_long ∙ told.too_long;
            holds = written (canon_written ask file told.told) told.holds flushed.written flushed.none;
          };
      lines = λ ask file bytes of face.
          faults-as _ ask file bytes _ _ first first last c.flush.new.self refl (keeps-same first) (keeps-faults last c.flush.new.self flushed.stays)
          (c.in_ok-write_face.ensures.lines ask file bytes of face);
      unmet = λ ask file bytes of face.
          unmet-as _ _ _ first last c.flush.new.self refl (keeps-faults last c.flush.new.self flushed.stays) (c.in_ok-write_face.ensures.unmet ask file bytes of face);
      none = flushed.none;
    }
