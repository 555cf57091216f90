-- The lexer's grammar keeps the laws of parts.
use Rattle.std.proofs.Common.{◌≡◌, Some, refl, ap}
use Rattle.clean_runs.specs.Parts.{Keeps, is_line, is_text}
use Rattle.ecma_joining.proofs.TextsLaws.{texts_stand_alone}
use Rattle.ecma_state.specs.Mode.{is_tpl_element}
use Rattle.ecma_state.specs.Run.{start_of}
use Rattle.ecma_state.specs.State.{is_slash}
use Rattle.ecma_state.specs.Transition.{tpl_on_top}
use Rattle.ecma_state.specs.declared.settings.Settings.{Settings}
use Rattle.ecma_token.specs.Kinds.{kind_of}
use Rattle.ecma_token.specs.declared.kind.TokenKind.{TokenKind}
use Rattle.ecma_token.specs.declared.kind.TokenKind.TheVariants.{BackQuote, RBrace, RParen, Shebang, Template}
use Rattle.ecma_parts.proofs.AgainParts.{again_kind, regex_again, regex_flag, regex_inside, regex_plain, slash_role}
use Rattle.ecma_parts.proofs.CodeParts.{code_end, code_first, code_line, code_next, code_no_shebang, code_opens, code_plain, code_role}
use Rattle.ecma_parts.proofs.PlainBearings.{IsPlain, shebang_keeps}
use Rattle.ecma_parts.proofs.TextParts.{closing_again, closing_closes, closing_opens, closing_plain, closing_role, closing_slash, shebang_again, shebang_begins, shebang_plain, text_inside, text_kind, text_plain}
use Rattle.ecma_parts.specs.BareReads.{bare_shebang}
use Rattle.ecma_parts.specs.Bearing.{Bearing, bearing_of}
use Rattle.ecma_parts.specs.Instance.{Allowing, Change, InContext, Nothing, PartsKeep, changed, lexer_parts, role_of, was_shebang}
use Rattle.ecma_place.specs.Cursor.{Cursor}

change_plain : (b : Bearing) (change : Change) → IsPlain b → IsPlain (changed change b)
change_plain b (InContext context) plain = record { contexts = plain.contexts; start = plain.start; line = plain.line }
change_plain b (Allowing allowed) plain = record { contexts = plain.contexts; start = plain.start; line = plain.line }
change_plain b Nothing plain = plain

change_keeps : (b : Bearing) (change : Change) → Keeps lexer_parts b (changed change b)
change_keeps b (InContext context) = record { start = refl; inside = refl; behind_text = refl; behind_line = refl }
change_keeps b (Allowing allowed) = record { start = refl; inside = refl; behind_text = refl; behind_line = refl }
change_keeps b Nothing = record { start = refl; inside = refl; behind_text = refl; behind_line = refl }

was_text_by : (kind : TokenKind) → is_tpl_element (Some kind) ≡ is_text (role_of kind)
was_text_by Template = refl
was_text_by BackQuote = refl
was_text_by RBrace = refl
was_text_by RParen = refl
was_text_by Shebang = refl
was_text_by kind = refl

was_line_by : (kind : TokenKind) → was_shebang (Some kind) ≡ is_line (role_of kind)
was_line_by Template = refl
was_line_by BackQuote = refl
was_line_by RBrace = refl
was_line_by RParen = refl
was_line_by Shebang = refl
was_line_by kind = refl

pub lexer_parts_keep : PartsKeep
lexer_parts_keep =
    record {
      Plainly = IsPlain;
      change_plain = change_plain;
      change_keeps = change_keeps;
      after_start = λ b t. refl;
      after_text = λ b t. was_text_by (kind_of t.kind);
      after_line = λ b t. was_line_by (kind_of t.kind);
      text_role = λ b x. ap role_of (text_kind b x);
      text_slash = λ b x. ap is_slash (text_kind b x);
      text_bytes = λ b x. refl;
      text_inside = λ b x. ap tpl_on_top (text_inside b x);
      text_plain = text_plain;
      text_none = refl;
      closes_some = refl;
      text_empty = texts_stand_alone.empty;
      text_full = texts_stand_alone.full;
      text_closed = texts_stand_alone.closed;
      text_again = texts_stand_alone.again;
      text_behind = texts_stand_alone.left;
      closing_role = closing_role;
      closing_slash = closing_slash;
      closing_opens = closing_opens;
      closing_plain = λ b r inside plain. closing_plain b r plain;
      closing_closes = λ b r tail h. closing_closes b r tail;
      closing_again = λ b r tail h. closing_again b r tail;
      shebang_role = λ r. refl;
      shebang_slash = λ r. refl;
      shebang_inside = λ b r. ap tpl_on_top (shebang_keeps b (bare_shebang r).flag);
      shebang_plain = shebang_plain;
      shebang_begins = λ r tail opens h. shebang_begins r tail h;
      shebang_again = λ r tail opens h. shebang_again r tail h;
      code_end = code_end;
      no_shebang = refl;
      code_role = code_role;
      code_line = code_line;
      code_plain = code_plain;
      code_opens = code_opens;
      code_next = λ b r t here v u tail plain inside start h final follows. code_next b r t here v u tail plain inside h final follows;
      code_first = code_first;
      code_no_shebang = code_no_shebang;
      slash_role = λ k h. slash_role (kind_of k) h;
      regex_slash = λ b p here u h. ap is_slash (again_kind b p here u h);
      regex_role = λ b p here u h. ap role_of (again_kind b p here u h);
      regex_flag = regex_flag;
      regex_inside = λ b p here u h. ap tpl_on_top (regex_inside b p here u h);
      regex_plain = regex_plain;
      regex_again = regex_again;
    }

-- a session begins plainly
pub start_is_plain : (settings : Settings) (input : Cursor) → lexer_parts_keep.Plainly (bearing_of (start_of settings input))
unfolding lexer_parts_keep
start_is_plain settings input = record { contexts = refl; start = λ none. refl; line = λ line. cc }
