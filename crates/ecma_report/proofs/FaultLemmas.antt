-- Lines of faults behind those of before, and whether the text is faulty.
use Rattle.std.proofs.Common.{◌≡◌, ◌∙◌, ℕ, ◌+◌, ◌<◌, ◌==◌, Bool, true, false, not, ◌||◌, if◌then◌else◌, List, [], ◌∷◌, ◌++◌, append-nil, append_assoc, get_or, length, map, take, ap, refl, subst, sym}
use Rattle.std.specs.List.{list_any}
use Rattle.std.proofs.Math.Bool.{or_assoc}
use Rattle.std.proofs.lemmas.List.Folds.{list_any-append, list_any_more}
use Rattle.ecma_token.specs.View.{ErrorView}
use Rattle.ecma_state.specs.Session.{Session}
use Rattle.ecma_faults.specs.Faults.{FoundView, IsByPlace, all_of, view, views_of}
use Rattle.ecma_faults.specs.declared.found.Found.{Found}
use Rattle.ecma_faults.specs.declared.found.Origin.TheVariants.{Recorded, Token, Waiting}
use Rattle.ecma_reader.specs.Outputs.{error_tokens}
use Rattle.ecma_report.specs.Errors.{errors_behind}
use Rattle.ecma_report.specs.FaultLines.{OfFaults, OfUnmet, fault_of, has_fault, is_fault, is_faulty_behind, tells_faults, told_faults}
use Rattle.ecma_report.specs.Reports.{IsOf, KeepsFaults, look_of, writes_errors}
use Rattle.ecma_report.specs.Rows.{Look}
use Rattle.ecma_report.specs.Unmet.{unmet_told}
use Rattle.ecma_report.specs.declared.report.Report.{Report}
use Rattle.ecma_report.proofs.OrderLemmas.{fault-in-order}
use Rattle.ecma_report.proofs.ReportLemmas.{said-of}
use Rattle.ecma_command.specs.declared.words.Face.{Face}
use Rattle.ecma_command.specs.declared.words.Named.{Named}
use Rattle.ecma_command.specs.declared.words.Face.TheVariants.{Tokens, Imports, Exports, Comments, Errors, Classes, Html, Show, Canonical}

-- errors that have rows have no lines
pub rows-no-lines : (face : Face) → writes_errors face ≡ true → tells_faults face ≡ false
rows-no-lines Errors rows = refl
rows-no-lines Tokens rows = cc
rows-no-lines Imports rows = cc
rows-no-lines Exports rows = cc
rows-no-lines Comments rows = cc
rows-no-lines Classes rows = cc
rows-no-lines Html rows = cc
rows-no-lines Show rows = cc
rows-no-lines Canonical rows = cc

none-told : (l : Look) (file text : List ℕ) (found : List FoundView) → tells_faults l.asked.face ≡ false → told_faults l file text found ≡ []
none-told l file text [] none = refl
none-told l file text (f ∷ found) none = ap (λ b. (if b then fault_of l file text f else []) ++ told_faults l file text found) none ∙ none-told l file text found none

-- faulty as before, for places that are no slash's, or for other faults
or-on : (before unmet other : Bool) → ((before || (unmet || false)) || other) ≡ (before || (unmet || other))
or-on true unmet other = refl
or-on false true other = refl
or-on false false other = refl

faulty-on : (before told : Bool) (unmet : List ℕ) (other : Bool) → told ≡ is_faulty_behind before unmet false → (told || other) ≡ is_faulty_behind before unmet other
faulty-on before told unmet other is = ap (λ b. b || other) is ∙ or-on before (not (length unmet == 0)) other

-- where errors have no lines, only places that are no slash's do
pub unmet-alone : (unmet : List ℕ) (l : Look) (file text : List ℕ) (found : List FoundView) (other : Bool) (old between new : Report) → tells_faults l.asked.face ≡ false
    → OfUnmet unmet false old between → new.faults.items ≡ between.faults.items ++ told_faults l file text found → new.is_faulty ≡ (between.is_faulty || other) → OfUnmet unmet other old new
unmet-alone unmet l file text found other old between new none first told faulty = record {
  whole = told ∙ ap (λ lines. between.faults.items ++ lines) (none-told l file text found none) ∙ append-nil between.faults.items ∙ first.whole;
  faulty = faulty ∙ faulty-on old.is_faulty between.is_faulty unmet other first.faulty;
}

-- the same of what a report is of
pub unmet-of : (named : Named) (l : Look) (file text : List ℕ) (again : ℕ) (old new : Report) → IsOf l file text old
    → OfUnmet (unmet_told named (look_of old) old.name.now old.text.now again) false old new → OfUnmet (unmet_told named l file text again) false old new
unmet-of named l file text again old new of told = said-of l file text old (λ k n t. OfUnmet (unmet_told named k n t again) false old new) of told

-- and where they have, these stand behind those of before
pub unmet-first : (unmet : List ℕ) (l : Look) (file text : List ℕ) (found ordered : List FoundView) (old between new : Report) → IsByPlace found ordered → OfUnmet unmet false old between
    → new.faults.items ≡ between.faults.items ++ told_faults l file text ordered → new.is_faulty ≡ (between.is_faulty || has_fault ordered) → OfFaults unmet l file text found old new
unmet-first unmet l file text found ordered old between new by_place first told faulty = record {
  ordered = ordered;
  by_place = by_place;
  whole = told ∙ ap (λ lines. lines ++ told_faults l file text ordered) first.whole ∙ append_assoc unmet old.faults.items (told_faults l file text ordered);
  faulty = faulty ∙ ap (λ b. between.is_faulty || b) (fault-in-order found ordered by_place) ∙ faulty-on old.is_faulty between.is_faulty unmet (has_fault found) first.faulty;
}

-- the same of what is the same
pub faults-as : (unmet : List ℕ) (l : Look) (file text : List ℕ) (found errors : List FoundView) (first before after last : Report) → found ≡ errors → KeepsFaults first before → KeepsFaults after last
    → OfFaults unmet l file text found before after → OfFaults unmet l file text errors first last
faults-as unmet l file text found errors first before after last same begun ended faults = record {
  ordered = faults.ordered;
  by_place = subst (λ fs. IsByPlace fs faults.ordered) same faults.by_place;
  whole = ended.faults ∙ faults.whole ∙ ap (λ lines. unmet ++ (lines ++ told_faults l file text faults.ordered)) begun.faults;
  faulty = ended.faulty
      ∙ faults.faulty
      ∙ ap (λ b. is_faulty_behind b unmet (has_fault found)) begun.faulty
      ∙ ap (λ fs. is_faulty_behind first.is_faulty unmet (has_fault fs)) same;
}

pub unmet-as : (unmet : List ℕ) (found other : Bool) (first after last : Report) → found ≡ other → KeepsFaults after last → OfUnmet unmet found first after → OfUnmet unmet other first last
unmet-as unmet found other first after last same ended is = record {
  whole = ended.faults ∙ is.whole;
  faulty = ended.faulty ∙ is.faulty ∙ ap (is_faulty_behind first.is_faulty unmet) same;
}

-- One error more

pub fault-added : (found : List Found) (i : ℕ) (d : Found) (begun here told passed : Bool) → i < length found → here ≡ (begun || list_any (λ one. is_fault one.origin) (take i found))
    → told ≡ (here || is_fault (get_or found i d).origin) → passed ≡ told → passed ≡ (begun || list_any (λ one. is_fault one.origin) (take (i + 1) found))
fault-added found i d begun here told passed low so_far added same =
    let q = λ (one : Found). is_fault one.origin in
    same
    ∙ added
    ∙ ap (λ b. b || q (get_or found i d)) so_far
    ∙ or_assoc begun (list_any q (take i found)) (q (get_or found i d))
    ∙ ap (λ b. begun || b) (sym (list_any_more q found i d low))

pub fault-seen : (found : List Found) → list_any (λ one. is_fault one.origin) found ≡ has_fault (map view found)
fault-seen [] = refl
fault-seen (one ∷ found) = ap (λ b. is_fault one.origin || b) (fault-seen found)

-- the errors of a session
pub errors-left : (s : Session) (tokens recorded waiting : List ErrorView) → tokens ≡ error_tokens s → recorded ≡ s.errors.recorded → waiting ≡ s.errors.waiting → all_of tokens recorded waiting ≡ errors_behind s
errors-left s tokens recorded waiting of_tokens of_recorded of_waiting =
    ap (λ es. all_of es recorded waiting) of_tokens ∙ ap (λ es. all_of (error_tokens s) es waiting) of_recorded ∙ ap (all_of (error_tokens s) s.errors.recorded) of_waiting

-- errors that wait are no faults
waiting-none : (waiting : List ErrorView) → has_fault (views_of Waiting waiting) ≡ false
waiting-none [] = refl
waiting-none (e ∷ waiting) = waiting-none waiting

pub fault-unless-waiting : (tokens recorded waiting : List ErrorView) → has_fault (all_of tokens recorded waiting) ≡ has_fault (all_of tokens recorded [])
fault-unless-waiting tokens recorded waiting =
    let q = λ (f : FoundView). is_fault f.origin in
    let of_tokens = views_of Token tokens in
    let of_recorded = views_of Recorded recorded in
    list_any-append q of_tokens (of_recorded ++ views_of Waiting waiting)
    ∙ ap (λ b. has_fault of_tokens || b) (list_any-append q of_recorded (views_of Waiting waiting))
    ∙ ap (λ b. has_fault of_tokens || (has_fault of_recorded || b)) (waiting-none waiting)
    ∙ sym (ap (λ b. has_fault of_tokens || b) (list_any-append q of_recorded []))
    ∙ sym (list_any-append q of_tokens (of_recorded ++ []))
