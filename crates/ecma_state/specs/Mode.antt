-- What a read goes by besides the text.
use Rattle.std.specs.Prelude.{Bool, true, false, not, ◌&&◌, Option, Some}
use Rattle.ecma_syntax.specs.declared.settings.Syntax.{Syntax}
use Rattle.ecma_syntax.specs.declared.settings.Syntax.TheVariants.{Es, Typescript}
use Rattle.ecma_syntax.specs.declared.settings.EsVersion.{EsVersion}
use Rattle.ecma_syntax.specs.declared.settings.EsVersion.TheVariants.{Es3}
use Rattle.ecma_token.specs.declared.kind.TokenKind.{TokenKind}
use Rattle.ecma_token.specs.declared.kind.TokenKind.TheVariants.{Template}
use Rattle.ecma_grammar.specs.declared.gap_mode.GapMode.{GapMode}
use Rattle.ecma_state.specs.declared.mode.Mode.{Mode}
use Rattle.ecma_contexts.specs.declared.token_context.TokenContext.{TokenContext}
use Rattle.ecma_contexts.specs.declared.token_context.TokenContext.TheVariants.{Tpl, JSXExpr}

abbrev pub is_typescript : Syntax → Bool
is_typescript (Es es) = false
is_typescript (Typescript ts) = true

-- the fifth edition, or a later one
abbrev pub is_since_es5 : EsVersion → Bool
is_since_es5 Es3 = false
is_since_es5 _ = true

-- `<` and `>` stand among types
abbrev pub type_mode : Mode → Bool
type_mode mode = is_typescript mode.settings.syntax && (mode.context.in_type && not mode.context.should_not_lex_lt_or_gt_as_type)

-- the innermost context keeps white space
abbrev pub keeps_space : Option TokenContext → Bool
keeps_space (Some JSXExpr) = true
keeps_space _ = false

-- it lets white space be passed before a token
abbrev pub passes_space : Option TokenContext → Bool
passes_space (Some Tpl) = false
passes_space (Some JSXExpr) = false
passes_space _ = true

-- a template's text is read
abbrev pub is_template : Option TokenContext → Bool
is_template (Some Tpl) = true
is_template _ = false

-- template text stands before
abbrev pub is_tpl_element : Option TokenKind → Bool
is_tpl_element (Some Template) = true
is_tpl_element _ = false

-- what the gap before the next token is read by
abbrev pub gap_mode : Mode → GapMode
gap_mode mode =
    record {
      first = mode.first;
      type_mode = type_mode mode;
      keeps_space = keeps_space mode.top;
      template = is_template mode.top;
      prev = mode.previous;
      collect = mode.settings.comments;
    }
