-- What a read goes by besides the text, without places: the run over a text and the one over its canonical text have the same.
use Rattle.std.specs.Prelude.{Bool, false, ◌&&◌, Option, Some, is_none}
use Rattle.ecma_place.specs.declared.place.BytePos.{BytePos}
use Rattle.ecma_syntax.specs.declared.context.Context.{Context}
use Rattle.ecma_state.specs.Contexts.{Contexts, innermost}
use Rattle.ecma_state.specs.Session.{Session, seen_of}
use Rattle.ecma_state.specs.State.{flag_of, is_shebang, previous}
use Rattle.ecma_state.specs.Transition.{Turned, transition}
use Rattle.ecma_state.specs.declared.mode.Mode.{Mode}
use Rattle.ecma_state.specs.declared.settings.Settings.{Settings}
use Rattle.ecma_contexts.specs.declared.transition.Before.{Before}
use Rattle.ecma_token.specs.declared.kind.TokenKind.{TokenKind}

pub record Bearing : Type 0 where
  pub settings : Settings
  pub context : Context
  -- the innermost first
  pub contexts : Contexts
  -- whether an expression may begin
  pub expr_allowed : Bool
  -- no token but a shebang was given
  pub first : Bool
  pub shebang_allowed : Bool
  -- the kind of the token before, and its flag, which is false where there is none
  pub previous : Option TokenKind
  pub previous_flag : Bool

-- that of the next read of a session
abbrev pub bearing_of : Session → Bearing
bearing_of s =
    record {
      settings = s.settings;
      context = s.context;
      contexts = s.contexts;
      expr_allowed = s.expr_allowed;
      first = (seen_of s.past).first;
      shebang_allowed = is_none (seen_of s.past).last;
      previous = previous (seen_of s.past);
      previous_flag = flag_of (seen_of s.past).last;
    }

-- the mode of such a read
abbrev pub mode_at : BytePos → Bearing → Mode
mode_at opened b =
    record {
      settings = b.settings;
      context = b.context;
      top = innermost b.contexts;
      first = b.first;
      shebang_allowed = b.shebang_allowed;
      previous = b.previous;
      opened = opened;
    }

-- where its template was opened is asked for the span of an error alone
abbrev pub bare_mode : Bearing → Mode
bare_mode b = mode_at (record { 0 = 0 }) b

abbrev pub before_in : Bearing → Before
before_in b = record { expr_allowed = b.expr_allowed; previous = b.previous; previous_flag = b.previous_flag }

abbrev pub turned_in : Bearing → TokenKind → Bool → Turned
turned_in b kind flag = transition (before_in b) b.contexts kind flag

-- behind a token of this kind and with this flag
abbrev pub behind_kind : Bearing → TokenKind → Bool → Bearing
behind_kind b kind flag =
    record {
      settings = b.settings;
      context = b.context;
      contexts = (turned_in b kind flag).contexts;
      expr_allowed = (turned_in b kind flag).expr_allowed;
      first = is_shebang kind && b.first;
      shebang_allowed = false;
      previous = Some kind;
      previous_flag = flag;
    }
