-- What an `import` is where a token stands: our own choice, by what is expected there
use Rattle.std.specs.Prelude.{◌||◌, Bool, true, false, Option, Some, None, if◌then◌else◌}
use Rattle.ecma_word.specs.declared.keyword.Keyword.TheVariants as keyword
use Rattle.ecma_word.specs.declared.known_ident.KnownIdent.TheVariants as known
use Rattle.ecma_word.specs.declared.word.IdentKind.TheVariants as ident
use Rattle.ecma_word.specs.declared.word.WordKind.{WordKind}
use Rattle.ecma_word.specs.declared.word.WordKind.TheVariants as a_word
use Rattle.ecma_word.specs.declared.operator.BinOpToken.TheVariants as binary
use Rattle.ecma_token_kind.specs.declared.kind.TokenKind.{TokenKind}
use Rattle.ecma_token_kind.specs.declared.kind.TokenKind.TheVariants as kind
use Rattle.ecma_role_table.specs.declared.frame.FrameKind.{FrameKind}
use Rattle.ecma_role_table.specs.declared.frame.FrameKind.TheVariants as frame
use Rattle.ecma_role_table.specs.declared.state.State.{State}
use Rattle.ecma_role_table.specs.declared.state.State.TheVariants as state
use Rattle.ecma_module_table.specs.Parts.{part_of}
use Rattle.ecma_module_table.specs.declared.part.Part.{Part}
use Rattle.ecma_module_table.specs.declared.part.Part.TheVariants as part
use Rattle.ecma_module_table.specs.declared.part.Word.{Word}
use Rattle.ecma_module_table.specs.declared.part.Word.TheVariants as word
use Rattle.ecma_modules.specs.declared.region.ModuleToken.{ModuleToken}
use Rattle.ecma_modules.specs.declared.region.Region.{Region}
use Rattle.ecma_modules.specs.declared.region.Region.TheVariants as region

-- What is expected

-- in brackets of a type, of which those of an interface and the braces have members
abbrev pub in_type_brackets : Option FrameKind → Region
in_type_brackets (Some frame.Interface) = region.TypeBraces
in_type_brackets (Some frame.OuterBrace) = region.TypeBraces
in_type_brackets (Some frame.InnerBrace) = region.TypeBraces
in_type_brackets top = region.Type

-- in an expression, or what may be type arguments
abbrev pub in_expression : Option FrameKind → Region
in_expression (Some frame.Candidate) = region.Arguments
in_expression (Some frame.AsyncCandidate) = region.Arguments
in_expression top = region.Code

-- by the state of a track behind an `import`, and the innermost bracket or mark
abbrev pub region_behind : State → Option FrameKind → Region
region_behind state.Member top = region.Name
region_behind state.Key top = region.Name
region_behind state.TypeOperand top = region.Type
region_behind state.TypeBrackets top = in_type_brackets top
region_behind state.ImportExpression top = in_expression top
region_behind other top = region.Code

-- The token before

-- an operator of types that stands before them
abbrev pub is_type_operator : WordKind → Bool
is_type_operator (a_word.Keyword keyword.TypeOf) = true
is_type_operator (a_word.Ident (ident.Known known.Keyof)) = true
is_type_operator (a_word.Ident (ident.Known known.Readonly)) = true
is_type_operator (a_word.Ident (ident.Known known.Unique)) = true
is_type_operator w = false

-- a word between types, or between a name and a type
abbrev pub is_between_types : WordKind → Bool
is_between_types (a_word.Keyword keyword.Extends) = true
is_between_types (a_word.Keyword keyword.In) = true
is_between_types (a_word.Ident (ident.Known known.Is)) = true
is_between_types (a_word.Ident (ident.Known known.As)) = true
is_between_types w = false

-- a type comes behind it in the braces of a type
abbrev pub begins_type : TokenKind → Bool
begins_type (kind.Word w) = is_type_operator w || is_between_types w
begins_type (kind.BinOp binary.BitOr) = true
begins_type (kind.BinOp binary.BitAnd) = true
begins_type kind.Colon = true
begins_type kind.Arrow = true
begins_type kind.QuestionMark = true
begins_type k = false

-- a type comes behind it in what may be type arguments
abbrev pub begins_argument : TokenKind → Bool
begins_argument (kind.Word w) = is_type_operator w
begins_argument (kind.BinOp binary.Lt) = true
begins_argument (kind.BinOp binary.BitOr) = true
begins_argument (kind.BinOp binary.BitAnd) = true
begins_argument k = false

abbrev pub word_behind : Region → TokenKind → Word
word_behind region.Code before = word.Import
word_behind region.Name before = word.Other
word_behind region.Type before = word.ImportType
word_behind region.TypeBraces before = if begins_type before then word.ImportType else word.Other
word_behind region.Arguments before = if begins_argument before then word.ImportType else word.Import

-- Tokens

-- an `import`, of which alone the region is asked for
abbrev pub is_asked : TokenKind → Bool
is_asked (kind.Word (a_word.Keyword keyword.Import)) = true
is_asked k = false

-- a text begins with a declaration or an expression
abbrev pub import_in : Region → Option TokenKind → Word
import_in r None = word.Import
import_in r (Some before) = word_behind r before

abbrev pub with_region : Region → Option TokenKind → Part → Part
with_region r before (part.Word word.Import) = part.Word (import_in r before)
with_region r before p = p

-- what a token is behind the token before, if there is one
abbrev pub part_in : ModuleToken → Option TokenKind → Part
part_in token before = with_region token.region before (part_of token.kept.kind token.kept.span)
