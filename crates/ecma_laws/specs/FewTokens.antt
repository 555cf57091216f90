-- How many tokens a run keeps at most.
use Rattle.std.specs.Prelude.{◌*◌, ◌≤◌, List, length}
use Rattle.ecma_place.specs.Text.{byte_len}
use Rattle.ecma_place.specs.Cursor.{Cursor, rest}
use Rattle.ecma_state.specs.Run.{session}
use Rattle.ecma_state.specs.Session.{kept_back}
use Rattle.ecma_state.specs.declared.settings.Settings.{Settings}
use Rattle.ecma_state.specs.declared.step.Step.{Step}

-- Laws

-- Every run keeps at most two tokens for each byte of its text: one without characters may stand before each that has some.
abbrev pub TokensAreFew : Type 0
TokensAreFew =
    (settings : Settings) (input : Cursor) (steps : List Step) → length (kept_back (session settings input steps).past) ≤ 2 * byte_len (rest input)
