-- Where the reading of a text begins that is measured.
use Rattle.std.specs.Prelude.{ℕ, Bool, false, List}
use Rattle.ecma_state.specs.Session.{Session}
use Rattle.ecma_options.specs.Begin as reading
use Rattle.ecma_options.specs.declared.options.Options.{Options}

-- a script in sloppy mode, of TypeScript or not
abbrev pub options : Bool → Options
options ts = record { typescript = ts; «module» = false; strict = false; standard = false }

-- no comments are collected
abbrev pub begin : Bool → List ℕ → Session
begin ts bytes = reading.begin false (options ts) bytes
