-- What is written of the specifiers of a text: a line each. The form of the lines is our own choice.
use Rattle.std.specs.Prelude.{ℕ, ◌≤◌, List, [], ◌∷◌, ◌++◌, codes, decimal, flat_map, slice_range}
use Rattle.std.specs.Str.{chars}
use Rattle.ecma_syntax.specs.declared.context.Context.{Context}
use Rattle.ecma_reader.specs.ByFlag.{text_steps}
use Rattle.ecma_classes.specs.Classes.{begin}
use Rattle.ecma_state.specs.Run.{session}
use Rattle.ecma_state.specs.Session.{kept_tokens}
use Rattle.ecma_state.specs.declared.settings.Settings.{Settings}
use Rattle.ecma_state.specs.declared.step.Step.{Step}
use Rattle.ecma_imports.specs.Stages.{specifiers_of}
use Rattle.ecma_imports.specs.declared.imported.Form.{Form}
use Rattle.ecma_imports.specs.declared.imported.Form.TheVariants.{Static, Dynamic}
use Rattle.ecma_imports.specs.declared.imported.Specifier.{Specifier}

abbrev pub form_name : Form → List ℕ
form_name Static = codes "static"
form_name Dynamic = codes "dynamic"

-- how it is imported, and where it lies, each with a space behind it
abbrev pub head : Specifier → List ℕ
head s = form_name s.form ++ (codes " " ++ (decimal s.span.lo.0 ++ (codes " " ++ (decimal s.span.hi.0 ++ codes " "))))

-- the line of a specifier of the text with these bytes, as it is written, with its quotes
abbrev pub line : List ℕ → Specifier → List ℕ
line bytes s = head s ++ (slice_range bytes s.span.lo.0 s.span.hi.0 ++ 10 ∷ [])

abbrev pub lines : List ℕ → List Specifier → List ℕ
lines bytes specifiers = flat_map (line bytes) specifiers

-- what is written of a text that starts at the place 0, by what steps come to
abbrev pub imports_of_steps : Settings → List ℕ → List Step → List ℕ
imports_of_steps settings bytes steps = lines bytes (specifiers_of (kept_tokens (session settings (begin 0 (chars bytes)) steps)))

-- the same, read by the flag in a context
abbrev pub imports_of : Settings → Context → List ℕ → List ℕ
imports_of settings context bytes = imports_of_steps settings bytes (text_steps settings context (begin 0 (chars bytes)))

-- a specifier lies in the first n bytes of a text
abbrev pub LiesWithin : ℕ → Specifier → Type 0
LiesWithin n s = (s.span.lo.0 ≤ s.span.hi.0) × (s.span.hi.0 ≤ n)
