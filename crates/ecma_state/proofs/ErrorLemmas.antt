-- Lists of errors: how they are seen, and what becomes of them where faults are taken in.
use Rattle.std.specs.Prelude.{OnOk, OnErr, Result, Ok, Err, is_err}
use Rattle.std.proofs.Common.{◌≡◌, ◌∙◌, Bool, false, List, [], ◌∷◌, ◌++◌, length, map, take, sym, ap}
use Rattle.std.proofs.Math.Seq.{take-append_seam}
use Rattle.std.proofs.lemmas.List.{append-nil, append_assoc, map-append}
use Rattle.ecma_token.specs.View.{error_view}
use Rattle.ecma_token.specs.declared.error.Error.{Error}
use Rattle.ecma_syntax.specs.declared.context.Context.{Context}
use Rattle.ecma_grammar.specs.declared.found.Blame.{Blame}
use Rattle.ecma_grammar.specs.Found.{fault_view}
use Rattle.ecma_grammar.proofs.EmptyLists.{append-none, map-none}
use Rattle.ecma_state.specs.Disposition.{disposed, disposition, with_faults}
use Rattle.ecma_state.specs.Errors.{Begins, ErrorsValue, errors_view}

-- an error at the end of a list is seen at its end
pub view-push : (errors : List Error) (e : Error) → map error_view (errors ++ e ∷ []) ≡ map error_view errors ++ error_view e ∷ []
view-push errors e = map-append error_view errors (e ∷ [])

pub view-append : (errors more : List Error) → map error_view (errors ++ more) ≡ map error_view errors ++ map error_view more
view-append errors more = map-append error_view errors more

-- where nothing is seen, there is nothing
pub view-none : (errors : List Error) → map error_view errors ≡ [] → errors ≡ []
view-none = map-none error_view

pub faults-none : (first second : List (Blame × Error)) → map fault_view first ++ map fault_view second ≡ [] → (first ≡ []) × (second ≡ [])
faults-none first second h =
    let none = append-none (map fault_view first) (map fault_view second) h in
    (map-none fault_view first none.0, map-none fault_view second none.1)

pub ruleset views = (view-push, view-append, view-none, faults-none)

-- More errors behind those that stand

pub begins-same : (first : ErrorsValue) → Begins first first
begins-same first =
    record { more_recorded = []; more_waiting = []; recorded = sym (append-nil first.recorded); waiting = sym (append-nil first.waiting) }

-- behind a push, which may have been refused
pub begins-recorded : {A B : Type 0} → (first : ErrorsValue) (recorded : List Error) (e : Error) (pushed : Result A B)
    → OnOk pushed (recorded ≡ first.recorded ++ e ∷ []) → OnErr pushed (recorded ≡ first.recorded) → Begins first record { recorded = recorded; waiting = first.waiting }
begins-recorded first recorded e (Ok done) ok err =
    record { more_recorded = e ∷ []; more_waiting = []; recorded = ok; waiting = sym (append-nil first.waiting) }
begins-recorded first recorded e (Err back) ok err =
    record { more_recorded = []; more_waiting = []; recorded = err ∙ sym (append-nil first.recorded); waiting = sym (append-nil first.waiting) }

pub begins-waiting : {A B : Type 0} → (first : ErrorsValue) (waiting : List Error) (e : Error) (pushed : Result A B)
    → OnOk pushed (waiting ≡ first.waiting ++ e ∷ []) → OnErr pushed (waiting ≡ first.waiting) → Begins first record { recorded = first.recorded; waiting = waiting }
begins-waiting first waiting e (Ok done) ok err =
    record { more_recorded = []; more_waiting = e ∷ []; recorded = sym (append-nil first.recorded); waiting = ok }
begins-waiting first waiting e (Err back) ok err =
    record { more_recorded = []; more_waiting = []; recorded = sym (append-nil first.recorded); waiting = err ∙ sym (append-nil first.waiting) }

pub begins-further : (first second third : ErrorsValue) → Begins first second → Begins second third → Begins first third
begins-further first second third one two =
    record {
      more_recorded = one.more_recorded ++ two.more_recorded;
      more_waiting = one.more_waiting ++ two.more_waiting;
      recorded = two.recorded ∙ ap (λ list. list ++ two.more_recorded) one.recorded ∙ append_assoc first.recorded one.more_recorded two.more_recorded;
      waiting = two.waiting ∙ ap (λ list. list ++ two.more_waiting) one.waiting ∙ append_assoc first.waiting one.more_waiting two.more_waiting;
    }

-- the errors that stood are left where those behind them are cut off
pub cut-recorded : (first second : ErrorsValue) → Begins first second → take (length first.recorded) second.recorded ≡ first.recorded
cut-recorded first second b = ap (take (length first.recorded)) b.recorded ∙ take-append_seam first.recorded b.more_recorded

pub cut-waiting : (first second : ErrorsValue) → Begins first second → take (length first.waiting) second.waiting ≡ first.waiting
cut-waiting first second b = ap (take (length first.waiting)) b.waiting ∙ take-append_seam first.waiting b.more_waiting

-- what holds where a call succeeded, where it did
pub on-ok : {A B P : Type 0} → (result : Result A B) (is_refused : Bool) → is_refused ≡ is_err result → is_refused ≡ false → OnOk result P → P
on-ok (Ok value) is_refused is ok holds = holds
on-ok (Err error) is_refused is ok holds = cc

-- Taking in faults one after another

-- what was taken in so far, with what is left, is what is to be taken in
pub record IsTaking (context : Context) (old now : ErrorsValue) (all left : List (Blame × Error)) : Type 0 where
  pub errors : with_faults context (errors_view now) (map fault_view left) ≡ with_faults context (errors_view old) (map fault_view all)
  pub begins : Begins old now
  pub none : all ≡ [] → left ≡ []

pub taking-start : (context : Context) (old : ErrorsValue) (all left : List (Blame × Error)) → left ≡ all → IsTaking context old old all left
taking-start context old all left same =
    record { errors = ap (λ l. with_faults context (errors_view old) (map fault_view l)) same; begins = begins-same old; none = λ h. same ∙ h }

pub taking-next : (context : Context) (old now next : ErrorsValue) (all left more : List (Blame × Error)) (blame : Blame) (error : Error)
    → IsTaking context old now all left → left ≡ (blame, error) ∷ more
    → errors_view next ≡ disposed (errors_view now) (error_view error) (disposition context blame) → Begins now next → IsTaking context old next all more
taking-next context old now next all left more blame error taking one view begins =
    record {
      errors =
          ap (λ e. with_faults context e (map fault_view more)) view
          ∙ ap (λ l. with_faults context (errors_view now) (map fault_view l)) (sym one)
          ∙ taking.errors;
      begins = begins-further old now next taking.begins begins;
      none = λ h. let some : (blame, error) ∷ more ≡ [] = sym one ∙ taking.none h in cc;
    }

pub taking-end : (context : Context) (old now : ErrorsValue) (all left : List (Blame × Error)) → IsTaking context old now all left → left ≡ []
    → errors_view now ≡ with_faults context (errors_view old) (map fault_view all)
taking-end context old now all left taking none =
    ap (λ l. with_faults context (errors_view now) (map fault_view l)) (sym none) ∙ taking.errors
