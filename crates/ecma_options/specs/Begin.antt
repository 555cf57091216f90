-- Where the reading of a text begins.
use Rattle.std.specs.Prelude.{ℕ, Bool, false, List, if◌then◌else◌}
use Rattle.std.specs.Str.{chars}
use Rattle.ecma_place.specs.Cursor.{Cursor}
use Rattle.ecma_syntax.specs.Defaults.{no_context}
use Rattle.ecma_syntax.specs.Defaults as default_of
use Rattle.ecma_syntax.specs.declared.context.Context.{Context}
use Rattle.ecma_syntax.specs.declared.settings.NumberRule.{NumberRule}
use Rattle.ecma_syntax.specs.declared.settings.NumberRule.TheVariants.{Standard}
use Rattle.ecma_syntax.specs.declared.settings.Syntax.{Syntax}
use Rattle.ecma_syntax.specs.declared.settings.Syntax.TheVariants.{Typescript}
use Rattle.ecma_state.specs.Run.{act_on, start_of}
use Rattle.ecma_state.specs.Session.{Session}
use Rattle.ecma_state.specs.declared.settings.Settings.{Settings}
use Rattle.ecma_state.specs.declared.step.Step.TheVariants.{SetCtx}
use Rattle.ecma_options.specs.declared.options.Options.{Options}

-- TypeScript with every option off
abbrev typescript : Syntax
typescript = Typescript (record { tsx = false; decorators = false; dts = false; no_early_errors = false; disallow_ambiguous_jsx_like = false })

abbrev pub syntax : Options → Syntax
syntax o = if o.typescript then typescript else default_of.syntax

abbrev pub rule : Options → NumberRule
rule o = if o.standard then Standard else default_of.numbers

-- for the fifth edition; the first part says whether comments are collected
abbrev pub settings : Bool → Options → Settings
settings comments o =
    record { syntax = syntax o; target = default_of.version; comments = comments; numbers = rule o }

abbrev pub context : Options → Context
context o = record no_context { «module» = o.«module»; strict = o.strict }

-- the text with these bytes from its start, at the place 0
abbrev pub whole : List ℕ → Cursor
whole bytes = record { start = 0; text = chars bytes; at = 0 }

-- the run begins with the setting of the context
abbrev pub begin : Bool → Options → List ℕ → Session
begin comments o bytes = act_on (start_of (settings comments o) (whole bytes)) (SetCtx (context o))
