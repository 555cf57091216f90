-- What a lexer keeps of what is wrong, and how it is seen.
use Rattle.std.specs.Prelude.{◌≡◌, ◌++◌, List, map}
use Rattle.ecma_token.specs.View.{error_view}
use Rattle.ecma_token.specs.declared.error.Error.{Error}
use Rattle.ecma_state.specs.Disposition.{Errors}

-- the errors that were recorded, and those that wait, as they are kept
pub record ErrorsValue : Type 0 where
  pub recorded : List Error
  pub waiting : List Error

-- the same as they are seen
abbrev pub errors_view : ErrorsValue → Errors
errors_view e = record { recorded = map error_view e.recorded; waiting = map error_view e.waiting }

-- the second holds the errors of the first, and more behind them
pub record Begins (first second : ErrorsValue) : Type 0 where
  pub more_recorded : List Error
  pub more_waiting : List Error
  pub recorded : second.recorded ≡ first.recorded ++ more_recorded
  pub waiting : second.waiting ≡ first.waiting ++ more_waiting
