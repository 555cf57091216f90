-- The class of a token by what stands beside it. All of this is our own choice.
use Rattle.std.specs.Prelude.{Bool, true, false, not, ◌&&◌, ◌||◌, Option, Some, if◌then◌else◌}
use Rattle.ecma_word.specs.declared.keyword.Keyword as keywords
use Rattle.ecma_word.specs.declared.keyword.Keyword.TheVariants as keyword
use Rattle.ecma_word.specs.declared.known_ident.KnownIdent.TheVariants as known
use Rattle.ecma_word.specs.declared.word.WordKind.{WordKind}
use Rattle.ecma_word.specs.declared.word.WordKind.TheVariants as word
use Rattle.ecma_word.specs.declared.word.IdentKind.{IdentKind}
use Rattle.ecma_word.specs.declared.word.IdentKind.TheVariants as ident
use Rattle.ecma_word.specs.declared.operator.BinOpToken.TheVariants as binary
use Rattle.ecma_token.specs.declared.kind.TokenKind.{TokenKind}
use Rattle.ecma_token.specs.declared.kind.TokenKind.TheVariants as kind
use Rattle.ecma_role_table.specs.declared.state.State.{State}
use Rattle.ecma_role_table.specs.declared.state.State.TheVariants as state
use Rattle.ecma_styles.specs.declared.beside.Beside.{Beside}
use Rattle.ecma_styles.specs.declared.«class».Class.{Class}
use Rattle.ecma_styles.specs.declared.«class».Class.TheVariants.{BuiltIn, ClassName, Decorator, Function, Keyword, Literal, Meta, Name, Property, TypeName}
use Rattle.ecma_styles.specs.Beside.{begins_async, begins_import, begins_key, begins_parameters, begins_type, is_as, is_class, is_colon, is_declare, is_declared, is_dot, is_ident, is_import, is_is, is_key, is_new, is_object, is_paren, is_question, is_star, is_text, is_type_brace, is_type_bracket, is_type_paren, is_typeof, is_word, names_class}
use Rattle.ecma_styles.specs.Styles.{class_of, names_property}

-- Keys and properties

-- `get` in `get a() {}`, `f` in `f() {}`, `a` in `{ a }`, `a` in `{ a: 1 }`
abbrev pub key_class : Beside → Class
key_class b =
    if begins_key b.next then Keyword
    else if begins_parameters b.next then Function
    else if is_object b.over && not (is_colon b.next) then Name
    else Property

-- `meta` behind `import.`, `target` behind `new.`
abbrev pub is_meta : WordKind → Option TokenKind → Bool
is_meta (word.Ident (ident.Known known.Meta)) earlier = is_import earlier
is_meta (word.Ident (ident.Known known.Target)) earlier = is_new earlier
is_meta _ earlier = false

-- behind a dot or `#`: a class in a head, a type in a type, else a function where it is called
abbrev pub property_in : State → WordKind → Beside → Class
property_in state.ClassHead w b = ClassName
property_in state.InterfaceHead w b = ClassName
property_in state.TypeName w b = TypeName
property_in state.TypeEnd w b = TypeName
property_in state.TypeBrackets w b = TypeName
property_in _ w b =
    if is_meta w b.earlier then Meta
    else if is_paren b.next then Function
    else Property

abbrev pub property_class : WordKind → Beside → Class
property_class w b = property_in b.behind w b

-- Keywords

-- a member of a type begins behind `{`, `;`, `,`, on a line of its own where no type goes on, and behind `readonly`, `get` and `set`
abbrev pub begins_behind : Option TokenKind → Beside → Bool
begins_behind (Some kind.LBrace) b = true
begins_behind (Some kind.Semi) b = true
begins_behind (Some kind.Comma) b = true
begins_behind (Some kind.Colon) b = false
begins_behind (Some kind.QuestionMark) b = false
begins_behind (Some kind.Arrow) b = false
begins_behind (Some (kind.BinOp binary.BitOr)) b = false
begins_behind (Some (kind.BinOp binary.BitAnd)) b = false
begins_behind (Some (kind.Word (word.Ident (ident.Known known.Readonly)))) b = is_colon b.next || is_question b.next
begins_behind (Some (kind.Word (word.Ident (ident.Known known.Get)))) b = is_paren b.next
begins_behind (Some (kind.Word (word.Ident (ident.Known known.Set)))) b = is_paren b.next
begins_behind _ b = b.flag

abbrev pub begins_member : Beside → Bool
begins_member b = begins_behind b.previous b

-- `default` in the type `{ default: string }`
abbrev pub names_member : Beside → Bool
names_member b = is_type_brace b.over && begins_member b && (is_colon b.next || is_question b.next)

abbrev pub keyword_alone : keywords.Keyword → Beside → Class
keyword_alone keyword.This b = BuiltIn
keyword_alone keyword.Super b = BuiltIn
keyword_alone keyword.Import b = if is_dot b.next then Meta else Keyword
keyword_alone keyword.New b = if is_dot b.next then Meta else Keyword
keyword_alone _ b = Keyword

abbrev pub keyword_class : keywords.Keyword → Beside → Class
keyword_class k b = if names_member b then Property else keyword_alone k b

-- Imports and exports

-- `from` before a string, `as` behind a star, and any word between `import` and what is imported
abbrev pub is_import_word : IdentKind → Beside → Bool
is_import_word (ident.Known known.From) b = is_text b.next
is_import_word (ident.Known known.As) b = is_star b.previous
is_import_word _ b = is_import b.previous && begins_import b.next

abbrev pub import_class : IdentKind → Beside → Class
import_class i b = if is_import_word i b then Keyword else Name

-- what may be named in the braces
abbrev pub is_name : Option TokenKind → Bool
is_name other = is_word other || is_text other

-- `as` between names, `type` before one
abbrev pub is_clause_word : IdentKind → Beside → Bool
is_clause_word (ident.Known known.As) b = is_name b.previous && is_name b.next
is_clause_word (ident.Known known.Type_) b = not (is_name b.previous) && is_name b.next && not (is_as b.next)
is_clause_word _ b = false

-- in braces; a colon is behind the key of an attribute
abbrev pub clause_class : IdentKind → Beside → Class
clause_class i b =
    if is_colon b.next then Property
    else if is_clause_word i b then Keyword
    else Name

-- Statements and operands

-- a word of TypeScript that stands before another
abbrev pub is_modifier : IdentKind → Bool
is_modifier (ident.Known known.Abstract) = true
is_modifier (ident.Known known.Declare) = true
is_modifier (ident.Known known.Namespace) = true
is_modifier (ident.Known known.Using) = true
is_modifier (ident.Known known.Readonly) = true
is_modifier (ident.Known known.Private) = true
is_modifier (ident.Known known.Protected) = true
is_modifier (ident.Known known.Public) = true
is_modifier (ident.Known known.Keyof) = true
is_modifier (ident.Known known.Unique) = true
is_modifier (ident.Known known.Infer) = true
is_modifier _ = false

abbrev pub is_undefined : IdentKind → Bool
is_undefined (ident.Known known.Undefined) = true
is_undefined _ = false

-- a name behind `declare` on a line (`module`, `global`), a modifier, a class that is made or extended, a call, `undefined`
abbrev pub operand_class : IdentKind → Beside → Class
operand_class i b =
    if is_declare b.previous && not b.flag then Keyword
    else if is_modifier i && is_declared b.next then Keyword
    else if names_class b.previous && not (is_dot b.next) then ClassName
    else if is_paren b.next then Function
    else if is_undefined i then Literal
    else Name

-- a word that is a keyword by what stands behind it
abbrev pub word_class_if : Bool → IdentKind → Beside → Class
word_class_if is_keyword i b = if is_keyword then Keyword else operand_class i b

-- Types

-- behind `asserts`
abbrev pub is_asserted : State → Bool
is_asserted state.Asserts = true
is_asserted _ = false

-- no type is behind `typeof`, nor is what a predicate is of: `x is T`, `asserts x`
abbrev pub type_class : Beside → Class
type_class b = if is_asserted b.before || is_typeof b.previous || is_is b.next then Name else TypeName

-- a word before a type, `is` and `as` behind a word
abbrev pub is_type_word : IdentKind → Beside → Bool
is_type_word (ident.Known known.Keyof) b = begins_type b.next
is_type_word (ident.Known known.Readonly) b = begins_type b.next
is_type_word (ident.Known known.Unique) b = begins_type b.next
is_type_word (ident.Known known.Infer) b = begins_type b.next
is_type_word (ident.Known known.Asserts) b = begins_type b.next
is_type_word (ident.Known known.Abstract) b = begins_type b.next
is_type_word (ident.Known known.Is) b = is_word b.previous
is_type_word (ident.Known known.As) b = is_word b.previous
is_type_word _ b = false

abbrev pub begins_list : Option TokenKind → Bool
begins_list (Some kind.LParen) = true
begins_list (Some kind.Comma) = true
begins_list _ = false

-- `b` in `(b?: T) => U`
abbrev pub is_optional : Beside → Bool
is_optional b = is_type_paren b.over && is_question b.next && begins_list b.previous

-- a parameter, the key of an index, or an element with a name
abbrev pub is_parameter : Beside → Bool
is_parameter b =
    if is_colon b.next then (is_type_paren b.over || is_type_bracket b.over) && not (is_question b.previous)
    else is_optional b

abbrev pub is_bracket : Option TokenKind → Bool
is_bracket (Some kind.LBracket) = true
is_bracket _ = false

-- `readonly` in `readonly a: T`, `f` in `f(): T`, `a` in `a: T`
abbrev pub type_member_class : Beside → Class
type_member_class b =
    if is_word b.next || is_bracket b.next then Keyword
    else if begins_parameters b.next then Function
    else Property

abbrev pub bracketed_class : IdentKind → Beside → Class
bracketed_class i b =
    if is_type_brace b.over && begins_member b then type_member_class b
    else if is_type_word i b then Keyword
    else if is_parameter b then Name
    else type_class b

-- Names

abbrev pub is_implements : IdentKind → Bool
is_implements (ident.Known known.Implements) = true
is_implements _ = false

abbrev pub class_head_class : IdentKind → Beside → Class
class_head_class i b = if is_implements i && not (is_class b.previous) then Keyword else ClassName

-- behind `enum`, its name; before that is anything else
abbrev pub enum_head_class : State → Class
enum_head_class state.EnumHead = ClassName
enum_head_class _ = Keyword

-- by what is expected behind it: in the head of a function, an alias, a class, an interface or an enumeration; `type`, `interface`
-- before a name, `async` before a function; `export type`, `assert` behind a module's name, `of` in a `for`
abbrev pub plain_name_in : State → IdentKind → Beside → Class
plain_name_in state.Head i b = Function
plain_name_in state.AliasHead i b = TypeName
plain_name_in state.ClassHead i b = class_head_class i b
plain_name_in state.InterfaceHead i b = ClassName
plain_name_in state.EnumHead i b = enum_head_class b.before
plain_name_in state.MaybeType i b = word_class_if (is_ident b.next) i b
plain_name_in state.MaybeInterface i b = word_class_if (is_ident b.next) i b
plain_name_in state.Async i b = word_class_if (begins_async b.next) i b
plain_name_in state.AsyncStatement i b = word_class_if (begins_async b.next) i b
plain_name_in state.ExportType i b = Keyword
plain_name_in state.ImportWith i b = Keyword
plain_name_in state.Operand i b = Keyword
plain_name_in state.Import i b = import_class i b
plain_name_in state.ImportAs i b = import_class i b
plain_name_in state.Clause i b = clause_class i b
plain_name_in _ i b = operand_class i b

abbrev pub plain_name_class : IdentKind → Beside → Class
plain_name_class i b = plain_name_in b.behind i b

-- a type is read behind the token
abbrev pub is_typed : State → Bool
is_typed state.TypeOperand = true
is_typed state.Asserts = true
is_typed state.TypeName = true
is_typed state.TypeEnd = true
is_typed state.TypeParenName = true
is_typed state.TypeBrackets = true
is_typed _ = false

-- behind `as`, `satisfies`, `is` and what changes types, a type is expected
abbrev pub typed_in : State → IdentKind → Beside → Class
typed_in state.TypeOperand i b = Keyword
typed_in state.Asserts i b = if is_word b.next then Keyword else TypeName
typed_in state.TypeName i b = type_class b
typed_in state.TypeEnd i b = type_class b
typed_in _ i b = bracketed_class i b

abbrev pub typed_class : IdentKind → Beside → Class
typed_class i b = typed_in b.behind i b

abbrev pub name_class : IdentKind → Beside → Class
name_class i b = if is_typed b.behind then typed_class i b else plain_name_class i b

-- Words

abbrev pub is_decorator : State → Bool
is_decorator state.Decorator = true
is_decorator _ = false

abbrev pub alone_class : WordKind → Beside → Class
alone_class (word.Keyword k) b = keyword_class k b
alone_class word.Null b = Literal
alone_class word.True b = Literal
alone_class word.False b = Literal
alone_class (word.Ident i) b = name_class i b

abbrev pub word_class : WordKind → Beside → Class
word_class w b =
    if is_key b.behind then key_class b
    else if is_decorator b.before then Decorator
    else if names_property b.previous then property_class w b
    else alone_class w b

-- the class of a token of this kind; of what is no word it is the plain one
abbrev pub class_at : TokenKind → Beside → Option Class
class_at (kind.Word w) b = Some (word_class w b)
class_at other b = class_of other b.previous
