-- What one read finds without places: a token by its own characters, where nothing is wrong that is recorded.
use Rattle.std.specs.Prelude.{Bool, true, false, not, ◌||◌, List, [], ◌∷◌, ◌++◌, codes, Option, Some, None}
use Rattle.std.specs.List.{list_any}
use Rattle.clean_runs.specs.Grammar.{Token, Found, token, ended, faulty}
use Rattle.ecma_place.specs.Text.{Text}
use Rattle.ecma_reads.specs.declared.found.Blame.{Blame}
use Rattle.ecma_reads.specs.declared.found.Blame.TheVariants.{Always, Strict, Module}
use Rattle.ecma_reads.specs.Expressions.{regular_expression}
use Rattle.ecma_reads.specs.Found.{Fault, Scanned}
use Rattle.ecma_reads.specs.Fronts.{next_is}
use Rattle.ecma_reads.specs.Gaps.{behind_gap, gap_faults, has_line_break}
use Rattle.ecma_reads.specs.Pieces.{pieces}
use Rattle.ecma_reads.specs.Templates.{AtBackQuote, AtDollarBrace, TemplatePiece, is_break, mark_of, template_cutter, template_token}
use Rattle.ecma_state.specs.Mode.{gap_mode}
use Rattle.ecma_state.specs.Reading.{shebang_token}
use Rattle.ecma_state.specs.State.{is_error}
use Rattle.ecma_state.specs.TokenAt.{is_empty, token_at, token_of}
use Rattle.ecma_syntax.specs.declared.context.Context.{Context}
use Rattle.ecma_token.specs.Kinds.{kind_of}
use Rattle.ecma_token.specs.View.{TokenView}
use Rattle.ecma_parts.specs.Bearing.{Bearing, bare_mode}

-- a token with its own characters; places in it are counted from its first byte
abbrev pub Bare : Type 0
Bare = Token TokenView

-- What is wrong

-- a fault is recorded, where errors are not ignored; it waits where it isn't
abbrev pub is_recorded : Context → Blame → Bool
is_recorded context Always = true
is_recorded context Strict = context.strict || context.«module»
is_recorded context Module = context.«module»

abbrev pub any_recorded : Context → List Fault → Bool
any_recorded context faults = list_any (λ f. is_recorded context f.blame) faults

abbrev pub is_refused : Scanned TokenView → Bool
is_refused s = is_error (kind_of (token_of s.value))

-- Tokens

abbrev pub bare : Bool → Scanned TokenView → Bare
bare flag s = record { kind = token_of s.value; bytes = s.spelling; flag = flag || s.line_break }

abbrev pub token_if : Bool → Bare → Text → Bool → Found TokenView
token_if true t here waits = faulty
token_if false t here waits = token t here waits

abbrev pub end_if : Bool → Bool → Found TokenView
end_if true waits = faulty
end_if false waits = ended waits

-- a token behind a gap with these faults, or the end
abbrev pub token_behind_gap : Context → Bool → List Fault → Scanned TokenView → Text → Found TokenView
token_behind_gap context flag faults s here =
    token_if (is_refused s || any_recorded context (faults ++ s.faults)) (bare flag s) here (not (is_empty (faults ++ s.faults)))

abbrev pub found_behind : Bearing → Bool → List Fault → Text → Found TokenView
found_behind b flag faults [] = end_if (any_recorded b.context faults) (not (is_empty faults))
found_behind b flag faults (c ∷ cs) = token_behind_gap b.context flag faults (token_at (bare_mode b) flag (c ∷ cs)) (c ∷ cs)

-- gap and token, where no shebang stands
unfoldable pub code : Bearing → Text → Found TokenView
code b text =
    found_behind
    b
    (has_line_break (gap_mode (bare_mode b)) text)
    (gap_faults (gap_mode (bare_mode b)) text)
    (behind_gap (gap_mode (bare_mode b)) text)

-- Shebangs

abbrev pub bare_shebang : Text → Bare
bare_shebang text = bare false (shebang_token text)

-- Template text, by its own characters, and what closes it

abbrev pub pieces_of : Text → List TemplatePiece
pieces_of x = pieces template_cutter tt (x ++ codes "`")

abbrev pub bare_text : Bearing → Text → Bare
bare_text b x = record { kind = template_token (pieces_of x); bytes = x; flag = b.first || list_any is_break (pieces_of x) }

abbrev pub mark_if : Bool → Scanned TokenView
mark_if true = mark_of AtBackQuote
mark_if false = mark_of AtDollarBrace

abbrev pub bare_mark : Bearing → Text → Bare
bare_mark b text = bare b.first (mark_if (next_is 96 text))

-- Rereads

abbrev pub again_if : Bool → Bare → Option Bare
again_if true t = None
again_if false t = Some t

-- what is read again from a slash with a flag
abbrev pub again_from : Context → Bool → Scanned TokenView → Option Bare
again_from context flag s = again_if (is_refused s || any_recorded context s.faults) (bare flag s)

unfoldable pub bare_again : Bearing → Bare → Text → Option Bare
bare_again b slash here = again_from b.context slash.flag (regular_expression here)
