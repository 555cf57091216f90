-- Rows of clean runs.
use Rattle.std.proofs.Common.{◌≡◌, false, [], ◌∷◌, refl}
use Rattle.ecma_place.specs.Cursor.{Cursor}
use Rattle.ecma_state.specs.Counting.{count_step}
use Rattle.ecma_state.specs.declared.settings.Settings.{Settings}
use Rattle.ecma_state.specs.declared.step.Step.TheVariants.{PopContext}
use Rattle.ecma_state.specs.Clean.{is_clean}

-- without steps no end was answered, whatever the text is
no_steps : (settings : Settings) (input : Cursor) → is_clean settings input [] ≡ false
no_steps settings input = refl

-- contexts that are popped are not the run's own
popped : (settings : Settings) (input : Cursor) → is_clean settings input (PopContext ∷ []) ≡ false
unfolding count_step
popped settings input = refl
