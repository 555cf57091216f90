-- What becomes of a fault: it is recorded, it waits, or it is dropped. All of this page is our own choice.
use Rattle.std.specs.Prelude.{List, [], ◌∷◌, ◌++◌, fold, if◌then◌else◌}
use Rattle.ecma_syntax.specs.declared.context.Context.{Context}
use Rattle.ecma_token.specs.View.{ErrorView}
use Rattle.ecma_grammar.specs.declared.found.Blame.{Blame}
use Rattle.ecma_grammar.specs.declared.found.Blame.TheVariants.{Always, Strict, Module}
use Rattle.ecma_grammar.specs.Found.{Fault}

pub data Disposition : Type 0 where
  Recorded : Disposition
  Waiting : Disposition
  Dropped : Disposition

-- of a fault that counts whatever the code is: it is recorded unless errors are ignored
abbrev pub of_recorded : Context → Disposition
of_recorded context = if context.ignore_error then Dropped else Recorded

-- of a fault that counts in module code alone; whether errors are ignored isn't asked
abbrev pub of_module_mode : Context → Disposition
of_module_mode context = if context.«module» then Recorded else Waiting

abbrev pub disposition : Context → Blame → Disposition
disposition context Always = of_recorded context
disposition context Strict = if context.strict then of_recorded context else of_module_mode context
disposition context Module = of_module_mode context

-- the errors that were recorded, and those that wait for module code, in order
pub record Errors : Type 0 where
  pub recorded : List ErrorView
  pub waiting : List ErrorView

abbrev pub no_errors : Errors
no_errors = record { recorded = []; waiting = [] }

abbrev pub disposed : Errors → ErrorView → Disposition → Errors
disposed all e Recorded = record { recorded = all.recorded ++ e ∷ []; waiting = all.waiting }
disposed all e Waiting = record { recorded = all.recorded; waiting = all.waiting ++ e ∷ [] }
disposed all e Dropped = all

-- the errors behind one fault, and behind the faults of one read
abbrev pub with_fault : Context → Errors → Fault → Errors
with_fault context all f = disposed all f.error (disposition context f.blame)

abbrev pub with_faults : Context → Errors → List Fault → Errors
with_faults context all faults = fold (with_fault context) all faults

-- the errors behind the taking of those that were recorded
abbrev pub none_recorded : Errors → Errors
none_recorded all = record { recorded = []; waiting = all.waiting }

-- the errors behind the setting of a context: in module code what waits is recorded, behind what was recorded
abbrev pub with_context : Context → Errors → Errors
with_context context all =
    if context.«module» then record { recorded = all.recorded ++ all.waiting; waiting = [] } else all
