-- What tokens import: the strings behind `import`, behind `from` of an `import` or `export` at top level, and first in
-- `import(`. The stages follow ECMA-262 ImportDeclaration (16.2.2), ExportDeclaration (16.2.3) and ImportCall (13.3.10), and
-- the `type` of TypeScript; that they are told by tokens alone is our own choice.
use Rattle.std.specs.Prelude.{ℕ, zero, suc, ◌+◌, ◌-◌, ◌==◌, Bool, true, false, List, [], ◌∷◌, ◌++◌, Option, Some, None, if◌then◌else◌}
use Rattle.ecma_place.specs.declared.place.Span.{Span}
use Rattle.ecma_word.specs.declared.operator.BinOpToken.{BinOpToken}
use Rattle.ecma_word.specs.declared.operator.BinOpToken.TheVariants.{Mul}
use Rattle.ecma_word.specs.declared.word.IdentKind.TheVariants as ident
use Rattle.ecma_word.specs.declared.keyword.Keyword.TheVariants as keyword
use Rattle.ecma_word.specs.declared.known_ident.KnownIdent.TheVariants as known
use Rattle.ecma_word.specs.declared.word.WordKind.{WordKind}
use Rattle.ecma_word.specs.declared.word.WordKind.TheVariants as word
use Rattle.ecma_token.specs.declared.kind.TokenKind.{TokenKind}
use Rattle.ecma_token.specs.declared.kind.TokenKind.TheVariants as kind
use Rattle.ecma_state.specs.declared.kept.Kept.{Kept}
use Rattle.ecma_imports.specs.declared.imported.Form.{Form}
use Rattle.ecma_imports.specs.declared.imported.Form.TheVariants.{Static, Dynamic}
use Rattle.ecma_imports.specs.declared.imported.Specifier.{Specifier}
use Rattle.ecma_imports.specs.declared.stage.Part.{Part}
use Rattle.ecma_imports.specs.declared.stage.Part.TheVariants as part
use Rattle.ecma_imports.specs.declared.stage.Stage.{Stage}
use Rattle.ecma_imports.specs.declared.stage.Stage.TheVariants as stage

-- Parts

abbrev pub word_part : WordKind → Part
word_part (word.Keyword keyword.Import) = part.Import
word_part (word.Keyword keyword.Export) = part.Export
word_part (word.Ident (ident.Known known.From)) = part.From
word_part (word.Ident (ident.Known known.Type_)) = part.Type
word_part _ = part.Word

abbrev pub operator_part : BinOpToken → Part
operator_part Mul = part.Star
operator_part _ = part.Other

-- what a token is to an import
abbrev pub part_of : TokenKind → Part
part_of (kind.Word w) = word_part w
part_of kind.Str = part.Text
part_of kind.LParen = part.Paren
part_of kind.LBrace = part.Brace
part_of kind.LBracket = part.Bracket
part_of kind.DollarLBrace = part.Bracket
part_of kind.RParen = part.Closing
part_of kind.RBracket = part.Closing
part_of kind.RBrace = part.EndBrace
part_of kind.Comma = part.Comma
part_of (kind.BinOp op) = operator_part op
part_of kind.Dot = part.Member
part_of kind.Hash = part.Member
part_of _ = part.Other

-- Stages

-- at top level, or inside
abbrev pub import_begins : Bool → Stage
import_begins true = stage.Import
import_begins false = stage.Inside

abbrev pub export_begins : Bool → Stage
export_begins true = stage.Export
export_begins false = stage.Nothing

-- behind a token of which the stage before says nothing
abbrev pub begun : Bool → Part → Stage
begun top part.Import = import_begins top
begun top part.Export = export_begins top
begun top part.Member = stage.Member
begun top _ = stage.Nothing

-- behind what `.` or `#` names
abbrev pub named : Part → Stage
named part.Member = stage.Member
named _ = stage.Nothing

-- behind `import` at top level
abbrev pub behind_import : Part → Stage
behind_import part.Paren = stage.Call
behind_import part.From = stage.Names
behind_import part.Type = stage.Names
behind_import part.Word = stage.Names
behind_import part.Brace = stage.Names
behind_import part.Star = stage.Names
behind_import p = begun true p

-- behind `import` elsewhere
abbrev pub behind_inside : Bool → Part → Stage
behind_inside top part.Paren = stage.Call
behind_inside top p = begun top p

-- behind `export`, or `export type`
abbrev pub behind_export : Bool → Part → Stage
behind_export top part.Brace = stage.Names
behind_export top part.Star = stage.Names
behind_export top part.Type = stage.Export
behind_export top p = begun top p

-- among the names of an import or export, outside of their braces
abbrev pub behind_name : Part → Stage
behind_name part.From = stage.From
behind_name part.Type = stage.Names
behind_name part.Word = stage.Names
behind_name part.Text = stage.Names
behind_name part.Comma = stage.Names
behind_name part.Brace = stage.Names
behind_name part.Star = stage.Names
behind_name p = begun true p

-- and in them: the brace that closes them leaves one level
abbrev pub behind_inner : ℕ → Part → Stage
behind_inner depth part.EndBrace = if depth == 1 then stage.Closed else stage.Names
behind_inner depth _ = stage.Names

abbrev pub among_names : ℕ → Part → Stage
among_names zero p = behind_name p
among_names (suc depth) p = behind_inner (suc depth) p

-- behind the braces, and behind `from`, which may be a name too
abbrev pub behind_from : Bool → Part → Stage
behind_from top part.From = stage.From
behind_from top p = begun top p

-- the stage behind a token that stands so many levels deep
abbrev pub next_stage : Stage → ℕ → Part → Stage
next_stage stage.Nothing depth p = begun (depth == 0) p
next_stage stage.Member depth p = named p
next_stage stage.Import depth p = behind_import p
next_stage stage.Inside depth p = behind_inside (depth == 0) p
next_stage stage.Call depth p = begun (depth == 0) p
next_stage stage.Export depth p = behind_export (depth == 0) p
next_stage stage.Names depth p = among_names depth p
next_stage stage.Closed depth p = behind_from (depth == 0) p
next_stage stage.From depth p = behind_from (depth == 0) p

-- how many brackets are open behind a token
abbrev pub next_depth : ℕ → Part → ℕ
next_depth depth part.Paren = depth + 1
next_depth depth part.Brace = depth + 1
next_depth depth part.Bracket = depth + 1
next_depth depth part.Closing = depth - 1
next_depth depth part.EndBrace = depth - 1
next_depth depth _ = depth

-- Specifiers

abbrev pub string_form : Stage → Option Form
string_form stage.Import = Some Static
string_form stage.From = Some Static
string_form stage.Call = Some Dynamic
string_form _ = None

-- how a token is imported, if it is
abbrev pub form_of : Stage → Part → Option Form
form_of s part.Text = string_form s
form_of s _ = None

abbrev pub told : Option Form → Span → List Specifier
told None span = []
told (Some form) span = record { form = form; span = span } ∷ []

-- those of tokens, from a stage and a depth on
abbrev pub specifiers_from : Stage → ℕ → List Kept → List Specifier
specifiers_from s depth [] = []
specifiers_from s depth (k ∷ ks) =
    told (form_of s (part_of k.kind)) k.span
    ++ specifiers_from (next_stage s depth (part_of k.kind)) (next_depth depth (part_of k.kind)) ks

-- those of all tokens of a text
abbrev pub specifiers_of : List Kept → List Specifier
specifiers_of kept = specifiers_from stage.Nothing 0 kept
