use Rattle.std.proofs.Common.{◌∙◌, ap, false, subst, sym}
use Rattle.std.specs.Prelude.{Bool, List, ℕ, OnOk}
use Rattle.ecma_reader.specs.Outputs.{error_tokens}
use Rattle.ecma_report.specs.FaultLines.{OfFaults, OfUnmet, has_fault}
use Rattle.ecma_report.specs.Reports.{writes_errors}
use Rattle.ecma_report.specs.Rows.{Look}
use Rattle.ecma_report.specs.Runs.{read_to}
use Rattle.ecma_report.specs.Unmet.{unmet_by}
use Rattle.ecma_report.specs.declared.report.Report.{Report}
use Rattle.ecma_command.specs.declared.words.Named.{Named}
use Rattle.ecma_report.proofs.FaultLemmas.{fault-unless-waiting}
use Rattle.ecma_faces.specs.Telling.{with_comments}
use Rattle.ecma_faces.specs.Whole.{errors_told}
use Rattle.ecma_faces.proofs.FaultLemmas.{collected}
use Rattle.ecma_faces.proofs.telling.write_face.Goals as goal

-- what is told of errors where comments are collected or not
abbrev Told : Bool → Named → Look → List ℕ → List ℕ → Report → Report → Type 0
Told comments named l file text old new = OfFaults (unmet_by comments named l file text) l file text (errors_told (read_to comments named l text)) old new

pub returns-in-Errors-clause-errors : goal.returns-in-Errors-clause-errors
returns-in-Errors-clause-errors g c = λ look name text of is. c.write_errors.ensures.rows look name text of (ap writes_errors is)

pub returns-in-Canonical-clause-canonical : goal.returns-in-Canonical-clause-canonical
returns-in-Canonical-clause-canonical g c = λ look name text of is. c.write_canonical.ensures.told look name text of (ap writes_errors is)

pub returns-in-Errors-clause-unmet : goal.returns-in-Errors-clause-unmet
returns-in-Errors-clause-unmet g c = λ look name text of none.
    let face = sym (ap (λ l. l.asked.face) of.look) ∙ c.in-Errors.is in
    let named = c.args.named in
    let s = read_to false named look text in
    let first = c.args.report.now in
    let last = c.write_errors.new.report in
    let lines = subst (λ b. OnOk c.write_errors.result (OfUnmet (unmet_by false named look name text) b first last)) (fault-unless-waiting (error_tokens s) s.errors.recorded s.errors.waiting)
    (c.write_errors.ensures.lines look name text of (ap writes_errors face)) in
    subst (λ f. OnOk c.write_errors.result (OfUnmet (unmet_by (with_comments f) named look name text) (has_fault (errors_told (read_to (with_comments f) named look text))) first last)) (sym face) lines

pub returns-in-Classes-clause-unmet : goal.returns-in-Classes-clause-unmet
returns-in-Classes-clause-unmet g c = λ look name text of none.
    let named = c.args.named in
    let with = collected c.args.report.now.asked.face look.asked.face (sym (ap (λ l. l.asked.face) of.look)) c.in-Classes.is in
    subst (λ b. OnOk c.tell_gathered.result (OfUnmet (unmet_by b named look name text) (has_fault (errors_told (read_to b named look text))) c.args.report.now c.tell_gathered.new.report)) (sym with) (c.tell_gathered.ensures.unmet look name text of none)

pub returns-in-Tokens-clause-lines : goal.returns-in-Tokens-clause-lines
returns-in-Tokens-clause-lines g c = λ look name text of told.
    let with = ap (λ l. with_comments l.asked.face) (sym of.look) ∙ ap with_comments c.in-Tokens.is in
    subst (λ b. OnOk c.write_tokens.result (Told b c.args.named look name text c.args.report.now c.write_tokens.new.report)) (sym with) (c.write_tokens.ensures.lines look name text of)

pub returns-in-Comments-clause-lines : goal.returns-in-Comments-clause-lines
returns-in-Comments-clause-lines g c = λ look name text of told.
    let with = ap (λ l. with_comments l.asked.face) (sym of.look) ∙ ap with_comments c.in-Comments.is in
    subst (λ b. OnOk c.write_comments.result (Told b c.args.named look name text c.args.report.now c.write_comments.new.report)) (sym with) (c.write_comments.ensures.lines look name text of)

pub returns-in-Imports-clause-lines : goal.returns-in-Imports-clause-lines
returns-in-Imports-clause-lines g c = λ look name text of told.
    let with = ap (λ l. with_comments l.asked.face) (sym of.look) ∙ ap with_comments c.in-Imports.is in
    subst (λ b. OnOk c.write_imports.result (Told b c.args.named look name text c.args.report.now c.write_imports.new.report)) (sym with) (c.write_imports.ensures.lines look name text of)

pub returns-in-Exports-clause-lines : goal.returns-in-Exports-clause-lines
returns-in-Exports-clause-lines g c = λ look name text of told.
    let with = ap (λ l. with_comments l.asked.face) (sym of.look) ∙ ap with_comments c.in-Exports.is in
    subst (λ b. OnOk c.write_exports.result (Told b c.args.named look name text c.args.report.now c.write_exports.new.report)) (sym with) (c.write_exports.ensures.lines look name text of)

pub returns-in-Canonical-clause-lines : goal.returns-in-Canonical-clause-lines
returns-in-Canonical-clause-lines g c = λ look name text of told.
    let with = ap (λ l. with_comments l.asked.face) (sym of.look) ∙ ap with_comments c.in-Canonical.is in
    subst (λ b. OnOk c.write_canonical.result (Told b c.args.named look name text c.args.report.now c.write_canonical.new.report)) (sym with) (c.write_canonical.ensures.lines look name text of)

pub returns-in-Classes-clause-lines : goal.returns-in-Classes-clause-lines
returns-in-Classes-clause-lines g c = λ look name text of told.
    let with = collected c.args.report.now.asked.face look.asked.face (sym (ap (λ l. l.asked.face) of.look)) c.in-Classes.is in
    subst (λ b. OnOk c.tell_gathered.result (Told b c.args.named look name text c.args.report.now c.tell_gathered.new.report)) (sym with) (c.tell_gathered.ensures.lines look name text of)
