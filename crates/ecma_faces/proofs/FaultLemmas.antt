-- Lines of faults behind a text.
use Rattle.std.proofs.Common.{◌≡◌, ◌∙◌, ◌⊎◌, ℕ, List, [], true, ap, subst, ⊎_elim}
use Rattle.ecma_token.specs.View.{ErrorView}
use Rattle.ecma_state.specs.Session.{Session}
use Rattle.ecma_faults.specs.Faults.{all_of}
use Rattle.ecma_reader.specs.Outputs.{error_tokens}
use Rattle.ecma_report.specs.FaultLines.{OfFaults}
use Rattle.ecma_report.specs.Reports.{KeepsFaults}
use Rattle.ecma_report.specs.Rows.{Look}
use Rattle.ecma_report.specs.Unmet.{unmet_told}
use Rattle.ecma_report.specs.declared.report.Report.{Report}
use Rattle.ecma_command.specs.declared.words.Face.{Face}
use Rattle.ecma_command.specs.declared.words.Face.TheVariants.{Classes, Html, Show}
use Rattle.ecma_command.specs.declared.words.Named.{Named}
use Rattle.ecma_report.proofs.FaultLemmas.{faults-as}
use Rattle.ecma_faces.specs.Telling.{with_comments}
use Rattle.ecma_faces.specs.Whole.{errors_told}

-- errors that are those of a session
pub faults-read : (named : Named) (l : Look) (file text : List ℕ) (again all_again : ℕ) (s : Session) (tokens recorded : List ErrorView) (first before after last : Report)
    → again ≡ all_again → tokens ≡ error_tokens s → recorded ≡ s.errors.recorded → KeepsFaults first before → KeepsFaults after last
    → OfFaults (unmet_told named l file text again) l file text (all_of tokens recorded []) before after → OfFaults (unmet_told named l file text all_again) l file text (errors_told s) first last
faults-read named l file text again all_again s tokens recorded first before after last counted of_tokens of_recorded begun ended faults =
    subst (λ n. OfFaults (unmet_told named l file text n) l file text (errors_told s) first last) counted
    (faults-as (unmet_told named l file text again) l file text (all_of tokens recorded []) (errors_told s) first before after last
    (ap (λ es. all_of es recorded []) of_tokens ∙ ap (λ es. all_of (error_tokens s) es []) of_recorded) begun ended faults)

-- comments are collected for what is told of all tokens
pub collected : (face asked : Face) → asked ≡ face → (face ≡ Classes) ⊎ ((face ≡ Html) ⊎ (face ≡ Show)) → with_comments asked ≡ true
collected face asked same = ⊎_elim (λ is. ap with_comments (same ∙ is)) (⊎_elim (λ is. ap with_comments (same ∙ is)) (λ is. ap with_comments (same ∙ is)))
