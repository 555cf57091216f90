-- The steps of a list that count: all but saves and ways back, and what was gone back on. They are a function of the list
-- alone.
use Rattle.std.specs.Prelude.{List, [], ◌∷◌, ◌++◌, Option, Some, None, fold, slice_get}
use Rattle.ecma_state.specs.declared.step.Step.{Step}
use Rattle.ecma_state.specs.declared.step.Step.TheVariants.{Read, SetCtx, SetExprAllowed, SetContexts, PopContext, Reread, Withdraw, Save, Back, TakeErrors}

-- the steps that count so far, and those that stood at each save
pub record Counted : Type 0 where
  pub steps : List Step
  pub saves : List (List Step)

abbrev pub none_yet : Counted
none_yet = record { steps = []; saves = [] }

abbrev pub counted : Counted → Step → Counted
counted c step = record c { steps = c.steps ++ step ∷ [] }

-- the steps of a save stand in the place of all before the way back; where it wasn't made nothing changes
abbrev pub gone_back : Counted → Option (List Step) → Counted
gone_back c (Some steps) = record c { steps = steps }
gone_back c None = c

unfoldable pub count_step : Counted → Step → Counted
count_step c Save = record c { saves = c.saves ++ c.steps ∷ [] }
count_step c (Back n) = gone_back c (slice_get c.saves n)
count_step c Read = counted c Read
count_step c (SetCtx context) = counted c (SetCtx context)
count_step c (SetExprAllowed allowed) = counted c (SetExprAllowed allowed)
count_step c (SetContexts contexts) = counted c (SetContexts contexts)
count_step c PopContext = counted c PopContext
count_step c Reread = counted c Reread
count_step c Withdraw = counted c Withdraw
count_step c TakeErrors = counted c TakeErrors

abbrev pub count_all : Counted → List Step → Counted
count_all c steps = fold count_step c steps

-- the steps that count
abbrev pub counting : List Step → List Step
counting steps = (count_all none_yet steps).steps
