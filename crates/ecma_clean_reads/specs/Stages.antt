-- What the steps of a run go through, apart from places.
use Rattle.std.specs.Prelude.{ℕ, ◌-◌, Bool, List, [], ◌∷◌, Option, Some, None, is_some}
use Rattle.ecma_place.specs.declared.place.BytePos.{BytePos}
use Rattle.ecma_place.specs.declared.place.Span.{Span}
use Rattle.ecma_state.specs.Run.{Answer, Token', End, Done, Errors', NoSlash, NoSave, NoContext, act, act_on}
use Rattle.ecma_state.specs.Session.{Session}
use Rattle.ecma_state.specs.declared.step.Step.{Step}
use Rattle.ecma_token.specs.View.{ErrorView, SpannedView, TokenView, error_token, plain_token, refused_template}
use Rattle.ecma_parts.specs.Bearing.{Bearing, bearing_of}

-- A token with its places counted from its first byte

abbrev pub pos_from : ℕ → BytePos → BytePos
pos_from n p = record { 0 = p.0 - n }

abbrev pub span_from : ℕ → Span → Span
span_from n s = record { lo = pos_from n s.lo; hi = pos_from n s.hi }

abbrev pub token_from : ℕ → TokenView → TokenView
token_from n (plain_token token) = plain_token token
token_from n (refused_template raw kind span) = refused_template raw kind (span_from n span)
token_from n (error_token kind span) = error_token kind (span_from n span)

-- the token that was read, and its flag
abbrev pub placeless : SpannedView → TokenView × Bool
placeless t = (token_from t.span.lo.0 t.token, t.had_line_break)

abbrev pub read_in : Answer → Option (TokenView × Bool)
read_in (Token' t) = Some (placeless t)
read_in End = None
read_in Done = None
read_in (Errors' errors) = None
read_in NoSlash = None
read_in NoSave = None
read_in NoContext = None

-- what stands before a step: what the next read goes by, whether a slash is read again, which errors are recorded; and the
-- token that the step reads, if any
pub record Stage : Type 0 where
  pub bearing : Bearing
  pub rereads : Bool
  pub recorded : List ErrorView
  pub token : Option (TokenView × Bool)

abbrev pub stage_with : Session → Option (TokenView × Bool) → Stage
stage_with s found = record { bearing = bearing_of s; rereads = is_some s.reread; recorded = s.errors.recorded; token = found }

-- those of counting steps, and the one behind them all
abbrev pub stages : Session → List Step → List Stage
stages s [] = stage_with s None ∷ []
stages s (step ∷ steps) = stage_with s (read_in (act s step).answer) ∷ stages (act_on s step) steps
