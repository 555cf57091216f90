use Rattle.std.proofs.Common.{◌≡◌, ◌++◌, subst}
use Rattle.std.specs.Prelude.{OnOk}
use Rattle.ecma_report.specs.Reports.{look_of}
use Rattle.ecma_report.specs.Rows.{row_of}
use Rattle.ecma_faces.specs.Tokens.{kind_name}
use Rattle.ecma_print.specs.Rows.{more_view}
use Rattle.ecma_report.proofs.ReportLemmas.{counts-of, said-of}
use Rattle.ecma_faces.proofs.tokens.push_token.Goals as goal

pub returns-clause-added : goal.returns-clause-added
returns-clause-added c = λ ask file bytes of.
    let r = c.args.report.now in
    let k = c.args.token in
    let more = more_view c.args.more in
    let own = c.args.text.now in
    let added = c.push_row.ensures.added (counts-of ask file bytes r of) in
    let named = subst (λ n. OnOk c.push_row.result (c.push_row.new.self.out.items ≡ r.out.items ++ row_of (look_of r) r.name.now r.text.now n k.span more own)) c.kind_name.ensures added in
    said-of ask file bytes r (λ a n t. OnOk c.push_row.result (c.push_row.new.self.out.items ≡ r.out.items ++ row_of a n t (kind_name k.kind c.args.previous) k.span more own)) of named
