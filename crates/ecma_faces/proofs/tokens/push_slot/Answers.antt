use Rattle.std.proofs.Common.{◌∙◌, ◌++◌, append-nil, ap, sym}
use Rattle.std.specs.Prelude.{option_map}
use Rattle.ecma_token.specs.View.{spanned_view}
use Rattle.ecma_state.specs.Session.{kept_of}
use Rattle.ecma_print.specs.Rows.{more_view}
use Rattle.ecma_reader.specs.Readers.{tokens_found}
use Rattle.ecma_report.specs.Rows.{part_at, row_of}
use Rattle.ecma_faces.specs.Tokens.{kind_name, token_row, token_rows}
use Rattle.ecma_faces.specs.Values.{told}
use Rattle.ecma_faces.proofs.tokens.push_slot.Goals as goal

pub returns-clause-added : goal.returns-clause-added
returns-clause-added c = λ ask file bytes of.
    let held = c.args.report.now.out.items in
    let previous = c.args.previous in
    let t = spanned_view c.in-Some.token in
    let own = kept_of t in
    let k = c.of-own.result in
    let more = more_view c.told-more.result in
    c.in_ok-push_token.ensures.added ask file bytes of
    ∙ ap (λ text. held ++ row_of ask file bytes (kind_name k.kind previous) k.span more text) (c.at-text.ensures ∙ ap (λ whole. part_at whole k.span) of.text)
    ∙ ap (λ k. held ++ row_of ask file bytes (kind_name k.kind previous) k.span more (part_at bytes k.span)) c.of-own.ensures
    ∙ ap (λ m. held ++ row_of ask file bytes (kind_name own.kind previous) own.span m (part_at bytes own.span)) (c.told-more.ensures ∙ ap (λ l. told l.asked.values t) of.look)
    ∙ ap (λ l. held ++ l) (sym (append-nil (token_row ask file bytes previous t)))
    ∙ ap (λ s. held ++ token_rows ask file bytes previous (tokens_found (option_map spanned_view s))) (sym c.in-Some.is)
