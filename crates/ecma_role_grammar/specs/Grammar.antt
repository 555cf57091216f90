-- A grammar of ECMAScript's expressions, statements and modules (ECMA-262, 13 to 16), with their semicolons written but before a
-- right brace and a line that begins with a word, a number or a string. The tokens mark each slash: `Regex` is a regular expression, which stands where an operand begins (the goal
-- InputElementRegExp of 12.1); the operators `/` and `/=` divide, and stand behind a complete operand (InputElementDiv).
-- Not in it: other semicolons that are not written (12.10), `async` and `let` as identifiers, and what only annex B has. It
-- derives more than ECMA-262 where that changes no role: where `return` stands and early errors are not looked at
use Rattle.std.specs.Prelude.{◌≡◌, ◌++◌, Bool, true, false, not, ◌&&◌, ◌||◌, List, [], ◌∷◌}
use Rattle.ecma_word.specs.declared.keyword.Keyword.{Keyword}
use Rattle.ecma_word.specs.declared.keyword.Keyword.TheVariants as keyword
use Rattle.ecma_word.specs.declared.known_ident.KnownIdent.TheVariants as known
use Rattle.ecma_word.specs.declared.word.WordKind.{WordKind}
use Rattle.ecma_word.specs.declared.word.WordKind.TheVariants as word
use Rattle.ecma_word.specs.declared.word.IdentKind.TheVariants as ident
use Rattle.ecma_word.specs.declared.operator.BinOpToken.{BinOpToken}
use Rattle.ecma_word.specs.declared.operator.BinOpToken.TheVariants as binary
use Rattle.ecma_word.specs.declared.operator.AssignOp.{AssignOp}
use Rattle.ecma_word.specs.declared.operator.AssignOp.TheVariants as assigning
use Rattle.ecma_token_kind.specs.declared.kind.TokenKind.{TokenKind}
use Rattle.ecma_token_kind.specs.declared.kind.TokenKind.TheVariants as kind
use Rattle.ecma_role_grammar.specs.Tokens.{Token, token}

-- the parameters of nonterminals (ECMA-262, 5.1.5): [In], [Yield] and [Await]
pub record Parameters : Type 0 where
  pub takes_in : Bool
  pub is_generator : Bool
  pub is_async : Bool

-- [+In] and [~In], with the others as they are
abbrev pub with_in : Parameters → Parameters
with_in p = record { takes_in = true; is_generator = p.is_generator; is_async = p.is_async }

abbrev pub without_in : Parameters → Parameters
without_in p = record { takes_in = false; is_generator = p.is_generator; is_async = p.is_async }

-- [~Yield, ~Await] of an arrow function's body, [+Await] where the function is async
abbrev pub in_arrow : Bool → Parameters → Parameters
in_arrow is_async p = record { takes_in = p.takes_in; is_generator = false; is_async = is_async }

-- the parameters and the body of a function, by whether it is a generator and whether it is async
abbrev pub in_function : Bool → Bool → Parameters
in_function is_generator is_async = record { takes_in = true; is_generator = is_generator; is_async = is_async }

pub data Nonterminal : Type 0 where
  PrimaryExpression : Nonterminal
  Elision : Nonterminal
  ElementList : Nonterminal
  Element : Nonterminal
  TemplateLiteral : Nonterminal
  TemplateSpans : Nonterminal
  MemberExpression : Nonterminal
  NewExpression : Nonterminal
  CallExpression : Nonterminal
  Arguments : Nonterminal
  ArgumentList : Nonterminal
  OptionalChain : Nonterminal
  OptionalExpression : Nonterminal
  LeftHandSideExpression : Nonterminal
  UpdateExpression : Nonterminal
  UnaryExpression : Nonterminal
  BinaryExpression : Nonterminal
  ConditionalExpression : Nonterminal
  AssignmentExpression : Nonterminal
  ArrowParameters : Nonterminal
  AsyncArrowParameters : Nonterminal
  ConciseBody : Nonterminal
  Expression : Nonterminal
  PropertyDefinition : Nonterminal
  PropertyDefinitionList : Nonterminal
  PropertyName : Nonterminal
  ClassElementName : Nonterminal
  MethodDefinition : Nonterminal
  ClassTail : Nonterminal
  ClassMember : Nonterminal
  ClassElement : Nonterminal
  ClassElementList : Nonterminal
  BindingProperty : Nonterminal
  BindingPropertyList : Nonterminal
  BindingRest : Nonterminal
  BindingPattern : Nonterminal
  BindingElement : Nonterminal
  BindingElementList : Nonterminal
  BindingElisionElement : Nonterminal
  FormalParameters : Nonterminal
  FormalParameterList : Nonterminal
  ParametersAndBody : Nonterminal
  BindingTarget : Nonterminal
  VariableDeclaration : Nonterminal
  VariableDeclarationList : Nonterminal
  OptionalTest : Nonterminal
  ForHead : Nonterminal
  ForOfHead : Nonterminal
  CaseClauses : Nonterminal
  Catch : Nonterminal
  Finally : Nonterminal
  Block : Nonterminal
  Declaration : Nonterminal
  Statement : Nonterminal
  StatementListItem : Nonterminal
  StatementList : Nonterminal
  OpenStatement : Nonterminal
  OpenList : Nonterminal
  Body : Nonterminal
  SpecifierList : Nonterminal
  NamedSpecifiers : Nonterminal
  AttributeList : Nonterminal
  ModuleEnd : Nonterminal
  ImportClause : Nonterminal
  ModuleItem : Nonterminal
  ModuleItemList : Nonterminal

-- a word
abbrev pub reserved : Keyword → Bool → Token
reserved keyword had_line_break = token (kind.Word (word.Keyword keyword)) had_line_break

-- a name that is referred to or declared (ECMA-262, 13.1): `yield` and `await` where they are no keywords; `async` and
-- `let` are left out
abbrev pub is_identifier : Parameters → WordKind → Bool
is_identifier p (word.Ident (ident.Known known.Enum)) = false
is_identifier p (word.Ident (ident.Known known.Async)) = false
is_identifier p (word.Ident name) = true
is_identifier p (word.Keyword keyword.Yield) = not p.is_generator
is_identifier p (word.Keyword keyword.Await) = not p.is_async
is_identifier p other = false

-- numbers and strings (ECMA-262, 13.2.3)
abbrev pub is_literal : TokenKind → Bool
is_literal kind.Num = true
is_literal kind.BigInt = true
is_literal kind.Str = true
is_literal (kind.Word word.Null) = true
is_literal (kind.Word word.True) = true
is_literal (kind.Word word.False) = true
is_literal kind = false

-- an operator before its operand (ECMA-262, 13.4, 13.5)
abbrev pub is_prefix : TokenKind → Bool
is_prefix (kind.Word (word.Keyword keyword.Delete)) = true
is_prefix (kind.Word (word.Keyword keyword.Void)) = true
is_prefix (kind.Word (word.Keyword keyword.TypeOf)) = true
is_prefix (kind.BinOp binary.Add) = true
is_prefix (kind.BinOp binary.Sub) = true
is_prefix kind.Tilde = true
is_prefix kind.Bang = true
is_prefix kind.PlusPlus = true
is_prefix kind.MinusMinus = true
is_prefix kind = false

-- an operator behind its operand (ECMA-262, 13.4)
abbrev pub is_postfix : TokenKind → Bool
is_postfix kind.PlusPlus = true
is_postfix kind.MinusMinus = true
is_postfix kind = false

-- Restrictions on what is next (ECMA-262, 5.1.5)

-- no line terminator stands before the first token
abbrev pub is_on_line : List Token → Bool
is_on_line [] = true
is_on_line (x ∷ xs) = not x.had_line_break

-- what an expression that is a statement does not begin with (ECMA-262, 14.5); `let` is left out
abbrev pub begins_declaration : TokenKind → Bool
begins_declaration kind.LBrace = true
begins_declaration (kind.Word (word.Keyword keyword.Function)) = true
begins_declaration (kind.Word (word.Keyword keyword.Class)) = true
begins_declaration (kind.Word (word.Keyword keyword.Let)) = true
begins_declaration kind = false

abbrev pub is_async_word : TokenKind → Bool
is_async_word (kind.Word (word.Ident (ident.Known known.Async))) = true
is_async_word kind = false

abbrev pub is_function_word : TokenKind → Bool
is_function_word (kind.Word (word.Keyword keyword.Function)) = true
is_function_word kind = false

abbrev pub begins_function : List Token → Bool
begins_function [] = false
begins_function (x ∷ xs) = is_function_word x.kind && not x.had_line_break

abbrev pub is_declaration : List Token → Bool
is_declaration [] = false
is_declaration (x ∷ xs) = begins_declaration x.kind || (is_async_word x.kind && begins_function xs)

abbrev pub is_left_brace : TokenKind → Bool
is_left_brace kind.LBrace = true
is_left_brace kind = false

abbrev pub begins_brace : List Token → Bool
begins_brace [] = false
begins_brace (x ∷ xs) = is_left_brace x.kind

-- a token that no expression goes on with, at the start of a line: a word but `in` and `instanceof`, a number or a string
abbrev pub begins_anew_kind : TokenKind → Bool
begins_anew_kind (kind.Word (word.Keyword keyword.In)) = false
begins_anew_kind (kind.Word (word.Keyword keyword.InstanceOf)) = false
begins_anew_kind (kind.Word (word.Keyword keyword.Extends)) = false
begins_anew_kind (kind.Word name) = true
begins_anew_kind kind.Num = true
begins_anew_kind kind.BigInt = true
begins_anew_kind kind.Str = true
begins_anew_kind kind = false

abbrev pub begins_anew : List Token → Bool
begins_anew [] = false
begins_anew (x ∷ xs) = begins_anew_kind x.kind && x.had_line_break

-- Parts of heads of functions

abbrev pub async : Bool → Token
async had_line_break = token (kind.Word (word.Ident (ident.Known known.Async))) had_line_break

-- the star of a generator
abbrev pub star : Bool → Bool → List Token
star false had_line_break = []
star true had_line_break = token (kind.BinOp binary.Mul) had_line_break ∷ []

-- a name that is declared, or none
abbrev pub is_identifier_kind : Parameters → TokenKind → Bool
is_identifier_kind p (kind.Word name) = is_identifier p name
is_identifier_kind p kind = false

abbrev pub is_optional_name : Parameters → List Token → Bool
is_optional_name p [] = true
is_optional_name p (x ∷ []) = is_identifier_kind p x.kind
is_optional_name p xs = false

-- Names of members

abbrev pub is_literal_name : TokenKind → Bool
is_literal_name (kind.Word name) = true
is_literal_name kind.Str = true
is_literal_name kind.Num = true
is_literal_name kind.BigInt = true
is_literal_name kind = false

abbrev pub is_accessor : TokenKind → Bool
is_accessor (kind.Word (word.Ident (ident.Known known.Get))) = true
is_accessor (kind.Word (word.Ident (ident.Known known.Set))) = true
is_accessor kind = false

abbrev pub static : Bool → Token
static had_line_break = token (kind.Word (word.Ident (ident.Known known.Static))) had_line_break

-- Parts of statements

abbrev pub in_parens : Bool → Bool → List Token → List Token
in_parens a b xs = token kind.LParen a ∷ xs ++ token kind.RParen b ∷ []

abbrev pub is_declaring : Keyword → Bool
is_declaring keyword.Var = true
is_declaring keyword.Const = true
is_declaring keyword.Let = true
is_declaring keyword = false

abbrev pub is_lexical : Keyword → Bool
is_lexical keyword.Const = true
is_lexical keyword.Let = true
is_lexical keyword = false

abbrev pub of : Bool → Token
of had_line_break = token (kind.Word (word.Ident (ident.Known known.Of))) had_line_break

-- Parts of imports and exports

-- a script, [~Yield, ~Await], and module code, [~Yield, +Await] (ECMA-262, 16.1, 16.2)
abbrev pub script : Parameters
script = in_function false false

abbrev pub module_code : Parameters
module_code = in_function false true

abbrev pub from : Bool → Token
from had_line_break = token (kind.Word (word.Ident (ident.Known known.From))) had_line_break

abbrev pub as_word : Bool → Token
as_word had_line_break = token (kind.Word (word.Ident (ident.Known known.As))) had_line_break

-- ModuleExportName: a word or a string
abbrev pub is_export_name : TokenKind → Bool
is_export_name (kind.Word name) = true
is_export_name kind.Str = true
is_export_name kind = false

-- what an expression behind `export default` does not begin with (ECMA-262, 16.2.3); `let` is left out
abbrev pub begins_default : TokenKind → Bool
begins_default (kind.Word (word.Keyword keyword.Function)) = true
begins_default (kind.Word (word.Keyword keyword.Class)) = true
begins_default (kind.Word (word.Keyword keyword.Let)) = true
begins_default kind = false

abbrev pub is_default_declaration : List Token → Bool
is_default_declaration [] = true
is_default_declaration (x ∷ xs) = begins_default x.kind || (is_async_word x.kind && begins_function xs)

pub data Derives : Nonterminal → Parameters → List Token → Type 0 where
  -- PrimaryExpression (13.2)
  this_value : {p : Parameters} (a : Bool) → Derives PrimaryExpression p (reserved keyword.This a ∷ [])
  identifier_reference : {p : Parameters} (name : WordKind) (a : Bool) → is_identifier p name ≡ true → Derives PrimaryExpression p (token (kind.Word name) a ∷ [])
  literal : {p : Parameters} (kind : TokenKind) (a : Bool) → is_literal kind ≡ true → Derives PrimaryExpression p (token kind a ∷ [])
  regular_expression : {p : Parameters} (a : Bool) → Derives PrimaryExpression p (token kind.Regex a ∷ [])
  parenthesized : {p : Parameters} {xs : List Token} (a b : Bool) → Derives Expression (with_in p) xs → Derives PrimaryExpression p (token kind.LParen a ∷ xs ++ token kind.RParen b ∷ [])
  template : {p : Parameters} {xs : List Token} → Derives TemplateLiteral p xs → Derives PrimaryExpression p xs
  function_expression : {p : Parameters} (name xs : List Token) (is_generator a b : Bool) → is_optional_name (in_function is_generator false) name ≡ true → Derives ParametersAndBody (in_function is_generator false) xs → Derives PrimaryExpression p (reserved keyword.Function a ∷ (star is_generator b ++ (name ++ xs)))
  async_function_expression : {p : Parameters} (name xs : List Token) (is_generator a b : Bool) → is_optional_name (in_function is_generator true) name ≡ true → Derives ParametersAndBody (in_function is_generator true) xs → Derives PrimaryExpression p (async a ∷ reserved keyword.Function false ∷ (star is_generator b ++ (name ++ xs)))
  -- ArrayLiteral (13.2.4); Elision may be nothing
  holes_array : {p : Parameters} {xs : List Token} (a b : Bool) → Derives Elision p xs → Derives PrimaryExpression p (token kind.LBracket a ∷ xs ++ token kind.RBracket b ∷ [])
  array : {p : Parameters} {xs : List Token} (a b : Bool) → Derives ElementList p xs → Derives PrimaryExpression p (token kind.LBracket a ∷ xs ++ token kind.RBracket b ∷ [])
  array_holes : {p : Parameters} {xs ys : List Token} (a b c : Bool) → Derives ElementList p xs → Derives Elision p ys → Derives PrimaryExpression p (token kind.LBracket a ∷ (xs ++ (token kind.Comma b ∷ ys ++ token kind.RBracket c ∷ [])))
  no_hole : {p : Parameters} → Derives Elision p []
  hole : {p : Parameters} {xs : List Token} (a : Bool) → Derives Elision p xs → Derives Elision p (token kind.Comma a ∷ xs)
  element : {p : Parameters} {xs : List Token} → Derives Element p xs → Derives ElementList p xs
  more_elements : {p : Parameters} {xs ys : List Token} (a : Bool) → Derives ElementList p xs → Derives Element p ys → Derives ElementList p (xs ++ token kind.Comma a ∷ ys)
  element_value : {p : Parameters} {xs ys : List Token} → Derives Elision p xs → Derives AssignmentExpression (with_in p) ys → Derives Element p (xs ++ ys)
  element_spread : {p : Parameters} {xs ys : List Token} (a : Bool) → Derives Elision p xs → Derives AssignmentExpression (with_in p) ys → Derives Element p (xs ++ token kind.DotDotDot a ∷ ys)
  -- ObjectLiteral (13.2.5)
  empty_object : {p : Parameters} (a b : Bool) → Derives PrimaryExpression p (token kind.LBrace a ∷ token kind.RBrace b ∷ [])
  object : {p : Parameters} {xs : List Token} (a b : Bool) → Derives PropertyDefinitionList p xs → Derives PrimaryExpression p (token kind.LBrace a ∷ xs ++ token kind.RBrace b ∷ [])
  object_comma : {p : Parameters} {xs : List Token} (a b c : Bool) → Derives PropertyDefinitionList p xs → Derives PrimaryExpression p (token kind.LBrace a ∷ xs ++ token kind.Comma b ∷ token kind.RBrace c ∷ [])
  property : {p : Parameters} {xs : List Token} → Derives PropertyDefinition p xs → Derives PropertyDefinitionList p xs
  more_properties : {p : Parameters} {xs ys : List Token} (a : Bool) → Derives PropertyDefinitionList p xs → Derives PropertyDefinition p ys → Derives PropertyDefinitionList p (xs ++ token kind.Comma a ∷ ys)
  property_reference : {p : Parameters} (name : WordKind) (a : Bool) → is_identifier p name ≡ true → Derives PropertyDefinition p (token (kind.Word name) a ∷ [])
  property_initialized : {p : Parameters} {xs : List Token} (name : WordKind) (a b : Bool) → is_identifier p name ≡ true → Derives AssignmentExpression (with_in p) xs → Derives PropertyDefinition p (token (kind.Word name) a ∷ token (kind.AssignOp assigning.Assign) b ∷ xs)
  property_value : {p : Parameters} {xs ys : List Token} (a : Bool) → Derives PropertyName p xs → Derives AssignmentExpression (with_in p) ys → Derives PropertyDefinition p (xs ++ token kind.Colon a ∷ ys)
  property_method : {p : Parameters} {xs : List Token} → Derives MethodDefinition p xs → Derives PropertyDefinition p xs
  property_spread : {p : Parameters} {xs : List Token} (a : Bool) → Derives AssignmentExpression (with_in p) xs → Derives PropertyDefinition p (token kind.DotDotDot a ∷ xs)
  literal_name : {p : Parameters} (kind : TokenKind) (a : Bool) → is_literal_name kind ≡ true → Derives PropertyName p (token kind a ∷ [])
  computed_name : {p : Parameters} {xs : List Token} (a b : Bool) → Derives AssignmentExpression (with_in p) xs → Derives PropertyName p (token kind.LBracket a ∷ xs ++ token kind.RBracket b ∷ [])
  -- MethodDefinition (15.4 to 15.6, 15.8): no line terminator behind `async`; how many parameters an accessor has is not
  -- looked at
  element_property_name : {p : Parameters} {xs : List Token} → Derives PropertyName p xs → Derives ClassElementName p xs
  element_private_name : {p : Parameters} (name : WordKind) (a b : Bool) → Derives ClassElementName p (token kind.Hash a ∷ token (kind.Word name) b ∷ [])
  method : {p : Parameters} {xs ys : List Token} → Derives ClassElementName p xs → Derives ParametersAndBody (in_function false false) ys → Derives MethodDefinition p (xs ++ ys)
  generator_method : {p : Parameters} {xs ys : List Token} (a : Bool) → Derives ClassElementName p xs → Derives ParametersAndBody (in_function true false) ys → Derives MethodDefinition p (token (kind.BinOp binary.Mul) a ∷ (xs ++ ys))
  async_method : {p : Parameters} {xs ys : List Token} (a : Bool) → is_on_line xs ≡ true → Derives ClassElementName p xs → Derives ParametersAndBody (in_function false true) ys → Derives MethodDefinition p (async a ∷ (xs ++ ys))
  async_generator_method : {p : Parameters} {xs ys : List Token} (a : Bool) → Derives ClassElementName p xs → Derives ParametersAndBody (in_function true true) ys → Derives MethodDefinition p (async a ∷ token (kind.BinOp binary.Mul) false ∷ (xs ++ ys))
  accessor : {p : Parameters} {xs ys : List Token} (kind : TokenKind) (a : Bool) → is_accessor kind ≡ true → Derives ClassElementName p xs → Derives ParametersAndBody (in_function false false) ys → Derives MethodDefinition p (token kind a ∷ (xs ++ ys))
  -- Classes (15.7)
  class_expression : {p : Parameters} (name xs : List Token) (a : Bool) → is_optional_name p name ≡ true → Derives ClassTail p xs → Derives PrimaryExpression p (reserved keyword.Class a ∷ (name ++ xs))
  class_plain : {p : Parameters} {xs : List Token} (a b : Bool) → Derives ClassElementList p xs → Derives ClassTail p (token kind.LBrace a ∷ xs ++ token kind.RBrace b ∷ [])
  class_extends : {p : Parameters} {xs ys : List Token} (a b c : Bool) → Derives LeftHandSideExpression p xs → Derives ClassElementList p ys → Derives ClassTail p (reserved keyword.Extends a ∷ (xs ++ (token kind.LBrace b ∷ ys ++ token kind.RBrace c ∷ [])))
  no_elements : {p : Parameters} → Derives ClassElementList p []
  more_class_elements : {p : Parameters} {xs ys : List Token} → Derives ClassElementList p xs → Derives ClassElement p ys → Derives ClassElementList p (xs ++ ys)
  class_method : {p : Parameters} {xs : List Token} → Derives MethodDefinition p xs → Derives ClassMember p xs
  class_field : {p : Parameters} {xs : List Token} (a : Bool) → Derives ClassElementName p xs → Derives ClassMember p (xs ++ token kind.Semi a ∷ [])
  class_field_value : {p : Parameters} {xs ys : List Token} (a b : Bool) → Derives ClassElementName p xs → Derives AssignmentExpression (with_in p) ys → Derives ClassMember p (xs ++ (token (kind.AssignOp assigning.Assign) a ∷ ys ++ token kind.Semi b ∷ []))
  class_member : {p : Parameters} {xs : List Token} → Derives ClassMember p xs → Derives ClassElement p xs
  static_member : {p : Parameters} {xs : List Token} (a : Bool) → Derives ClassMember p xs → Derives ClassElement p (static a ∷ xs)
  static_block : {p : Parameters} {xs : List Token} (a b c : Bool) → Derives Body (in_function false true) xs → Derives ClassElement p (static a ∷ (token kind.LBrace b ∷ xs ++ token kind.RBrace c ∷ []))
  class_semicolon : {p : Parameters} (a : Bool) → Derives ClassElement p (token kind.Semi a ∷ [])
  -- TemplateLiteral (13.2.8): marks, text, substitutions and text behind each
  template_literal : {p : Parameters} {xs : List Token} (a b : Bool) → Derives TemplateSpans p xs → Derives TemplateLiteral p (token kind.BackQuote a ∷ xs ++ token kind.BackQuote b ∷ [])
  template_text : {p : Parameters} (a : Bool) → Derives TemplateSpans p (token kind.Template a ∷ [])
  template_span : {p : Parameters} {xs ys : List Token} (a b c : Bool) → Derives TemplateSpans p xs → Derives Expression (with_in p) ys → Derives TemplateSpans p (xs ++ (token kind.DollarLBrace a ∷ ys ++ token kind.RBrace b ∷ token kind.Template c ∷ []))
  -- MemberExpression (13.3)
  member_primary : {p : Parameters} {xs : List Token} → Derives PrimaryExpression p xs → Derives MemberExpression p xs
  member_index : {p : Parameters} {xs ys : List Token} (a b : Bool) → Derives MemberExpression p xs → Derives Expression (with_in p) ys → Derives MemberExpression p (xs ++ (token kind.LBracket a ∷ ys ++ token kind.RBracket b ∷ []))
  member_name : {p : Parameters} {xs : List Token} (name : WordKind) (a b : Bool) → Derives MemberExpression p xs → Derives MemberExpression p (xs ++ token kind.Dot a ∷ token (kind.Word name) b ∷ [])
  member_new : {p : Parameters} {xs ys : List Token} (a : Bool) → Derives MemberExpression p xs → Derives Arguments p ys → Derives MemberExpression p (reserved keyword.New a ∷ (xs ++ ys))
  member_template : {p : Parameters} {xs ys : List Token} → Derives MemberExpression p xs → Derives TemplateLiteral p ys → Derives MemberExpression p (xs ++ ys)
  member_private : {p : Parameters} {xs : List Token} (name : WordKind) (a b c : Bool) → Derives MemberExpression p xs → Derives MemberExpression p (xs ++ token kind.Dot a ∷ token kind.Hash b ∷ token (kind.Word name) c ∷ [])
  super_index : {p : Parameters} {xs : List Token} (a b c : Bool) → Derives Expression (with_in p) xs → Derives MemberExpression p (reserved keyword.Super a ∷ (token kind.LBracket b ∷ xs ++ token kind.RBracket c ∷ []))
  super_name : {p : Parameters} (name : WordKind) (a b c : Bool) → Derives MemberExpression p (reserved keyword.Super a ∷ token kind.Dot b ∷ token (kind.Word name) c ∷ [])
  new_target : {p : Parameters} (a b c : Bool) → Derives MemberExpression p (reserved keyword.New a ∷ token kind.Dot b ∷ token (kind.Word (word.Ident (ident.Known known.Target))) c ∷ [])
  import_meta : {p : Parameters} (a b c : Bool) → Derives MemberExpression p (reserved keyword.Import a ∷ token kind.Dot b ∷ token (kind.Word (word.Ident (ident.Known known.Meta))) c ∷ [])
  -- NewExpression (13.3)
  new_member : {p : Parameters} {xs : List Token} → Derives MemberExpression p xs → Derives NewExpression p xs
  new_plain : {p : Parameters} {xs : List Token} (a : Bool) → Derives NewExpression p xs → Derives NewExpression p (reserved keyword.New a ∷ xs)
  -- CallExpression (13.3)
  call_member : {p : Parameters} {xs ys : List Token} → Derives MemberExpression p xs → Derives Arguments p ys → Derives CallExpression p (xs ++ ys)
  call_again : {p : Parameters} {xs ys : List Token} → Derives CallExpression p xs → Derives Arguments p ys → Derives CallExpression p (xs ++ ys)
  call_index : {p : Parameters} {xs ys : List Token} (a b : Bool) → Derives CallExpression p xs → Derives Expression (with_in p) ys → Derives CallExpression p (xs ++ (token kind.LBracket a ∷ ys ++ token kind.RBracket b ∷ []))
  call_name : {p : Parameters} {xs : List Token} (name : WordKind) (a b : Bool) → Derives CallExpression p xs → Derives CallExpression p (xs ++ token kind.Dot a ∷ token (kind.Word name) b ∷ [])
  call_template : {p : Parameters} {xs ys : List Token} → Derives CallExpression p xs → Derives TemplateLiteral p ys → Derives CallExpression p (xs ++ ys)
  call_private : {p : Parameters} {xs : List Token} (name : WordKind) (a b c : Bool) → Derives CallExpression p xs → Derives CallExpression p (xs ++ token kind.Dot a ∷ token kind.Hash b ∷ token (kind.Word name) c ∷ [])
  super_call : {p : Parameters} {xs : List Token} (a : Bool) → Derives Arguments p xs → Derives CallExpression p (reserved keyword.Super a ∷ xs)
  import_call : {p : Parameters} {xs : List Token} (a b c : Bool) → Derives AssignmentExpression (with_in p) xs → Derives CallExpression p (reserved keyword.Import a ∷ (token kind.LParen b ∷ xs ++ token kind.RParen c ∷ []))
  -- OptionalExpression (13.3): `?.` is read as two tokens
  optional_member : {p : Parameters} {xs ys : List Token} → Derives MemberExpression p xs → Derives OptionalChain p ys → Derives OptionalExpression p (xs ++ ys)
  optional_call : {p : Parameters} {xs ys : List Token} → Derives CallExpression p xs → Derives OptionalChain p ys → Derives OptionalExpression p (xs ++ ys)
  optional_again : {p : Parameters} {xs ys : List Token} → Derives OptionalExpression p xs → Derives OptionalChain p ys → Derives OptionalExpression p (xs ++ ys)
  chain_call : {p : Parameters} {xs : List Token} (a b : Bool) → Derives Arguments p xs → Derives OptionalChain p (token kind.QuestionMark a ∷ token kind.Dot b ∷ xs)
  chain_index : {p : Parameters} {xs : List Token} (a b c d : Bool) → Derives Expression (with_in p) xs → Derives OptionalChain p (token kind.QuestionMark a ∷ token kind.Dot b ∷ (token kind.LBracket c ∷ xs ++ token kind.RBracket d ∷ []))
  chain_name : {p : Parameters} (name : WordKind) (a b c : Bool) → Derives OptionalChain p (token kind.QuestionMark a ∷ token kind.Dot b ∷ token (kind.Word name) c ∷ [])
  chain_private : {p : Parameters} (name : WordKind) (a b c d : Bool) → Derives OptionalChain p (token kind.QuestionMark a ∷ token kind.Dot b ∷ token kind.Hash c ∷ token (kind.Word name) d ∷ [])
  chain_more_call : {p : Parameters} {xs ys : List Token} → Derives OptionalChain p xs → Derives Arguments p ys → Derives OptionalChain p (xs ++ ys)
  chain_more_index : {p : Parameters} {xs ys : List Token} (a b : Bool) → Derives OptionalChain p xs → Derives Expression (with_in p) ys → Derives OptionalChain p (xs ++ (token kind.LBracket a ∷ ys ++ token kind.RBracket b ∷ []))
  chain_more_name : {p : Parameters} {xs : List Token} (name : WordKind) (a b : Bool) → Derives OptionalChain p xs → Derives OptionalChain p (xs ++ token kind.Dot a ∷ token (kind.Word name) b ∷ [])
  chain_more_private : {p : Parameters} {xs : List Token} (name : WordKind) (a b c : Bool) → Derives OptionalChain p xs → Derives OptionalChain p (xs ++ token kind.Dot a ∷ token kind.Hash b ∷ token (kind.Word name) c ∷ [])
  -- Arguments (13.3)
  no_arguments : {p : Parameters} (a b : Bool) → Derives Arguments p (token kind.LParen a ∷ token kind.RParen b ∷ [])
  arguments : {p : Parameters} {xs : List Token} (a b : Bool) → Derives ArgumentList p xs → Derives Arguments p (token kind.LParen a ∷ xs ++ token kind.RParen b ∷ [])
  arguments_comma : {p : Parameters} {xs : List Token} (a b c : Bool) → Derives ArgumentList p xs → Derives Arguments p (token kind.LParen a ∷ xs ++ token kind.Comma b ∷ token kind.RParen c ∷ [])
  argument : {p : Parameters} {xs : List Token} → Derives AssignmentExpression (with_in p) xs → Derives ArgumentList p xs
  spread_argument : {p : Parameters} {xs : List Token} (a : Bool) → Derives AssignmentExpression (with_in p) xs → Derives ArgumentList p (token kind.DotDotDot a ∷ xs)
  more_argument : {p : Parameters} {xs ys : List Token} (a : Bool) → Derives ArgumentList p xs → Derives AssignmentExpression (with_in p) ys → Derives ArgumentList p (xs ++ token kind.Comma a ∷ ys)
  more_spread : {p : Parameters} {xs ys : List Token} (a b : Bool) → Derives ArgumentList p xs → Derives AssignmentExpression (with_in p) ys → Derives ArgumentList p (xs ++ token kind.Comma a ∷ token kind.DotDotDot b ∷ ys)
  -- LeftHandSideExpression (13.3)
  left_new : {p : Parameters} {xs : List Token} → Derives NewExpression p xs → Derives LeftHandSideExpression p xs
  left_call : {p : Parameters} {xs : List Token} → Derives CallExpression p xs → Derives LeftHandSideExpression p xs
  left_optional : {p : Parameters} {xs : List Token} → Derives OptionalExpression p xs → Derives LeftHandSideExpression p xs
  -- UpdateExpression (13.4): no line terminator before a postfix operator
  update_left : {p : Parameters} {xs : List Token} → Derives LeftHandSideExpression p xs → Derives UpdateExpression p xs
  update_postfix : {p : Parameters} {xs : List Token} (kind : TokenKind) → is_postfix kind ≡ true → Derives LeftHandSideExpression p xs → Derives UpdateExpression p (xs ++ token kind false ∷ [])
  -- UnaryExpression (13.4, 13.5)
  unary_update : {p : Parameters} {xs : List Token} → Derives UpdateExpression p xs → Derives UnaryExpression p xs
  unary_prefix : {p : Parameters} {xs : List Token} (kind : TokenKind) (a : Bool) → is_prefix kind ≡ true → Derives UnaryExpression p xs → Derives UnaryExpression p (token kind a ∷ xs)
  unary_await : {p : Parameters} {xs : List Token} (a : Bool) → p.is_async ≡ true → Derives UnaryExpression p xs → Derives UnaryExpression p (reserved keyword.Await a ∷ xs)
  -- operators between two operands (13.6 to 13.13): which of them binds closer gives no slash another role
  binary_unary : {p : Parameters} {xs : List Token} → Derives UnaryExpression p xs → Derives BinaryExpression p xs
  binary_operation : {p : Parameters} {xs ys : List Token} (operator : BinOpToken) (a : Bool) → Derives BinaryExpression p xs → Derives UnaryExpression p ys → Derives BinaryExpression p (xs ++ token (kind.BinOp operator) a ∷ ys)
  binary_instanceof : {p : Parameters} {xs ys : List Token} (a : Bool) → Derives BinaryExpression p xs → Derives UnaryExpression p ys → Derives BinaryExpression p (xs ++ reserved keyword.InstanceOf a ∷ ys)
  binary_in : {p : Parameters} {xs ys : List Token} (a : Bool) → p.takes_in ≡ true → Derives BinaryExpression p xs → Derives UnaryExpression p ys → Derives BinaryExpression p (xs ++ reserved keyword.In a ∷ ys)
  binary_private : {p : Parameters} {xs : List Token} (name : WordKind) (a b c : Bool) → p.takes_in ≡ true → Derives UnaryExpression p xs → Derives BinaryExpression p (token kind.Hash a ∷ token (kind.Word name) b ∷ reserved keyword.In c ∷ xs)
  -- ConditionalExpression (13.14)
  conditional_binary : {p : Parameters} {xs : List Token} → Derives BinaryExpression p xs → Derives ConditionalExpression p xs
  conditional : {p : Parameters} {xs ys zs : List Token} (a b : Bool) → Derives BinaryExpression p xs → Derives AssignmentExpression (with_in p) ys → Derives AssignmentExpression p zs → Derives ConditionalExpression p (xs ++ (token kind.QuestionMark a ∷ ys ++ token kind.Colon b ∷ zs))
  -- AssignmentExpression (13.15)
  assignment_conditional : {p : Parameters} {xs : List Token} → Derives ConditionalExpression p xs → Derives AssignmentExpression p xs
  assignment : {p : Parameters} {xs ys : List Token} (operator : AssignOp) (a : Bool) → Derives LeftHandSideExpression p xs → Derives AssignmentExpression p ys → Derives AssignmentExpression p (xs ++ token (kind.AssignOp operator) a ∷ ys)
  -- YieldExpression (15.5): no line terminator behind `yield`
  yield_alone : {p : Parameters} (a : Bool) → p.is_generator ≡ true → Derives AssignmentExpression p (reserved keyword.Yield a ∷ [])
  yield_value : {p : Parameters} {xs : List Token} (a : Bool) → p.is_generator ≡ true → is_on_line xs ≡ true → Derives AssignmentExpression p xs → Derives AssignmentExpression p (reserved keyword.Yield a ∷ xs)
  yield_from : {p : Parameters} {xs : List Token} (a : Bool) → p.is_generator ≡ true → Derives AssignmentExpression p xs → Derives AssignmentExpression p (reserved keyword.Yield a ∷ token (kind.BinOp binary.Mul) false ∷ xs)
  -- ArrowFunction (15.3), with the parentheses of 13.2
  arrow : {p : Parameters} {xs ys : List Token} → Derives ArrowParameters p xs → Derives ConciseBody (in_arrow false p) ys → Derives AssignmentExpression p (xs ++ token kind.Arrow false ∷ ys)
  arrow_name : {p : Parameters} (name : WordKind) (a : Bool) → is_identifier p name ≡ true → Derives ArrowParameters p (token (kind.Word name) a ∷ [])
  arrow_none : {p : Parameters} (a b : Bool) → Derives ArrowParameters p (token kind.LParen a ∷ token kind.RParen b ∷ [])
  arrow_list : {p : Parameters} {xs : List Token} (a b : Bool) → Derives Expression (with_in p) xs → Derives ArrowParameters p (token kind.LParen a ∷ xs ++ token kind.RParen b ∷ [])
  arrow_comma : {p : Parameters} {xs : List Token} (a b c : Bool) → Derives Expression (with_in p) xs → Derives ArrowParameters p (token kind.LParen a ∷ xs ++ token kind.Comma b ∷ token kind.RParen c ∷ [])
  arrow_rest : {p : Parameters} {xs : List Token} (a b : Bool) → Derives BindingRest p xs → Derives ArrowParameters p (token kind.LParen a ∷ xs ++ token kind.RParen b ∷ [])
  arrow_list_rest : {p : Parameters} {xs ys : List Token} (a b c : Bool) → Derives Expression (with_in p) xs → Derives BindingRest p ys → Derives ArrowParameters p (token kind.LParen a ∷ (xs ++ token kind.Comma b ∷ ys) ++ token kind.RParen c ∷ [])
  concise_body : {p : Parameters} {xs : List Token} → begins_brace xs ≡ false → Derives AssignmentExpression p xs → Derives ConciseBody p xs
  function_body : {p : Parameters} {xs : List Token} (a b : Bool) → Derives Body p xs → Derives ConciseBody p (token kind.LBrace a ∷ xs ++ token kind.RBrace b ∷ [])
  -- AsyncArrowFunction (15.9): no line terminator behind `async`
  async_arrow : {p : Parameters} {xs ys : List Token} → Derives AsyncArrowParameters p xs → Derives ConciseBody (in_arrow true p) ys → Derives AssignmentExpression p (xs ++ token kind.Arrow false ∷ ys)
  async_name : {p : Parameters} (name : WordKind) (a : Bool) → is_identifier p name ≡ true → Derives AsyncArrowParameters p (async a ∷ token (kind.Word name) false ∷ [])
  async_none : {p : Parameters} (a b : Bool) → Derives AsyncArrowParameters p (async a ∷ token kind.LParen false ∷ token kind.RParen b ∷ [])
  async_list : {p : Parameters} {xs : List Token} (a b : Bool) → Derives ArgumentList p xs → Derives AsyncArrowParameters p (async a ∷ (token kind.LParen false ∷ xs ++ token kind.RParen b ∷ []))
  async_comma : {p : Parameters} {xs : List Token} (a b c : Bool) → Derives ArgumentList p xs → Derives AsyncArrowParameters p (async a ∷ (token kind.LParen false ∷ xs ++ token kind.Comma b ∷ token kind.RParen c ∷ []))
  -- Expression (13.16)
  expression : {p : Parameters} {xs : List Token} → Derives AssignmentExpression p xs → Derives Expression p xs
  comma : {p : Parameters} {xs ys : List Token} (a : Bool) → Derives Expression p xs → Derives AssignmentExpression p ys → Derives Expression p (xs ++ token kind.Comma a ∷ ys)
  -- Patterns and elements that are declared (14.3.3)
  rest_name : {p : Parameters} (name : WordKind) (a b : Bool) → is_identifier p name ≡ true → Derives BindingRest p (token kind.DotDotDot a ∷ token (kind.Word name) b ∷ [])
  rest_pattern : {p : Parameters} {xs : List Token} (a : Bool) → Derives BindingPattern p xs → Derives BindingRest p (token kind.DotDotDot a ∷ xs)
  holes_pattern : {p : Parameters} {xs : List Token} (a b : Bool) → Derives Elision p xs → Derives BindingPattern p (token kind.LBracket a ∷ xs ++ token kind.RBracket b ∷ [])
  holes_rest_pattern : {p : Parameters} {xs ys : List Token} (a b : Bool) → Derives Elision p xs → Derives BindingRest p ys → Derives BindingPattern p (token kind.LBracket a ∷ (xs ++ ys) ++ token kind.RBracket b ∷ [])
  array_pattern : {p : Parameters} {xs : List Token} (a b : Bool) → Derives BindingElementList p xs → Derives BindingPattern p (token kind.LBracket a ∷ xs ++ token kind.RBracket b ∷ [])
  array_pattern_holes : {p : Parameters} {xs ys : List Token} (a b c : Bool) → Derives BindingElementList p xs → Derives Elision p ys → Derives BindingPattern p (token kind.LBracket a ∷ (xs ++ (token kind.Comma b ∷ ys ++ token kind.RBracket c ∷ [])))
  array_pattern_rest : {p : Parameters} {xs ys zs : List Token} (a b c : Bool) → Derives BindingElementList p xs → Derives Elision p ys → Derives BindingRest p zs → Derives BindingPattern p (token kind.LBracket a ∷ (xs ++ token kind.Comma b ∷ (ys ++ zs)) ++ token kind.RBracket c ∷ [])
  empty_pattern : {p : Parameters} (a b : Bool) → Derives BindingPattern p (token kind.LBrace a ∷ token kind.RBrace b ∷ [])
  object_pattern : {p : Parameters} {xs : List Token} (a b : Bool) → Derives BindingPropertyList p xs → Derives BindingPattern p (token kind.LBrace a ∷ xs ++ token kind.RBrace b ∷ [])
  object_pattern_comma : {p : Parameters} {xs : List Token} (a b c : Bool) → Derives BindingPropertyList p xs → Derives BindingPattern p (token kind.LBrace a ∷ xs ++ token kind.Comma b ∷ token kind.RBrace c ∷ [])
  rest_object_pattern : {p : Parameters} (name : WordKind) (a b c d : Bool) → is_identifier p name ≡ true → Derives BindingPattern p (token kind.LBrace a ∷ token kind.DotDotDot b ∷ token (kind.Word name) c ∷ token kind.RBrace d ∷ [])
  object_pattern_rest : {p : Parameters} {xs : List Token} (name : WordKind) (a b c d f : Bool) → is_identifier p name ≡ true → Derives BindingPropertyList p xs → Derives BindingPattern p (token kind.LBrace a ∷ (xs ++ token kind.Comma b ∷ token kind.DotDotDot c ∷ token (kind.Word name) d ∷ []) ++ token kind.RBrace f ∷ [])
  binding_property : {p : Parameters} {xs : List Token} → Derives BindingProperty p xs → Derives BindingPropertyList p xs
  more_binding_properties : {p : Parameters} {xs ys : List Token} (a : Bool) → Derives BindingPropertyList p xs → Derives BindingProperty p ys → Derives BindingPropertyList p (xs ++ token kind.Comma a ∷ ys)
  binding_name : {p : Parameters} (name : WordKind) (a : Bool) → is_identifier p name ≡ true → Derives BindingProperty p (token (kind.Word name) a ∷ [])
  binding_name_value : {p : Parameters} {xs : List Token} (name : WordKind) (a b : Bool) → is_identifier p name ≡ true → Derives AssignmentExpression (with_in p) xs → Derives BindingProperty p (token (kind.Word name) a ∷ token (kind.AssignOp assigning.Assign) b ∷ xs)
  binding_member : {p : Parameters} {xs ys : List Token} (a : Bool) → Derives PropertyName p xs → Derives BindingElement p ys → Derives BindingProperty p (xs ++ token kind.Colon a ∷ ys)
  pattern_element : {p : Parameters} {xs : List Token} → Derives BindingElisionElement p xs → Derives BindingElementList p xs
  more_pattern_elements : {p : Parameters} {xs ys : List Token} (a : Bool) → Derives BindingElementList p xs → Derives BindingElisionElement p ys → Derives BindingElementList p (xs ++ token kind.Comma a ∷ ys)
  element_behind_holes : {p : Parameters} {xs ys : List Token} → Derives Elision p xs → Derives BindingElement p ys → Derives BindingElisionElement p (xs ++ ys)
  element_name : {p : Parameters} (name : WordKind) (a : Bool) → is_identifier p name ≡ true → Derives BindingElement p (token (kind.Word name) a ∷ [])
  element_name_value : {p : Parameters} {xs : List Token} (name : WordKind) (a b : Bool) → is_identifier p name ≡ true → Derives AssignmentExpression (with_in p) xs → Derives BindingElement p (token (kind.Word name) a ∷ token (kind.AssignOp assigning.Assign) b ∷ xs)
  element_pattern : {p : Parameters} {xs : List Token} → Derives BindingPattern p xs → Derives BindingElement p xs
  element_pattern_value : {p : Parameters} {xs ys : List Token} (a : Bool) → Derives BindingPattern p xs → Derives AssignmentExpression (with_in p) ys → Derives BindingElement p (xs ++ token (kind.AssignOp assigning.Assign) a ∷ ys)
  -- Parameters and the body of a function (15.1, 15.2)
  no_parameters : {p : Parameters} → Derives FormalParameters p []
  rest_parameter : {p : Parameters} {xs : List Token} → Derives BindingRest p xs → Derives FormalParameters p xs
  parameters : {p : Parameters} {xs : List Token} → Derives FormalParameterList p xs → Derives FormalParameters p xs
  parameters_comma : {p : Parameters} {xs : List Token} (a : Bool) → Derives FormalParameterList p xs → Derives FormalParameters p (xs ++ token kind.Comma a ∷ [])
  parameters_rest : {p : Parameters} {xs ys : List Token} (a : Bool) → Derives FormalParameterList p xs → Derives BindingRest p ys → Derives FormalParameters p (xs ++ token kind.Comma a ∷ ys)
  parameter : {p : Parameters} {xs : List Token} → Derives BindingElement p xs → Derives FormalParameterList p xs
  more_parameters : {p : Parameters} {xs ys : List Token} (a : Bool) → Derives FormalParameterList p xs → Derives BindingElement p ys → Derives FormalParameterList p (xs ++ token kind.Comma a ∷ ys)
  parameters_and_body : {p : Parameters} {xs ys : List Token} (a b c d : Bool) → Derives FormalParameters p xs → Derives Body p ys → Derives ParametersAndBody p (token kind.LParen a ∷ (xs ++ (token kind.RParen b ∷ (token kind.LBrace c ∷ ys ++ token kind.RBrace d ∷ []))))
  -- Variables and declarations (14.3): a name or a pattern, and its value
  target_name : {p : Parameters} (name : WordKind) (a : Bool) → is_identifier p name ≡ true → Derives BindingTarget p (token (kind.Word name) a ∷ [])
  target_pattern : {p : Parameters} {xs : List Token} → Derives BindingPattern p xs → Derives BindingTarget p xs
  variable_name : {p : Parameters} (name : WordKind) (a : Bool) → is_identifier p name ≡ true → Derives VariableDeclaration p (token (kind.Word name) a ∷ [])
  variable_value : {p : Parameters} {xs ys : List Token} (a : Bool) → Derives BindingTarget p xs → Derives AssignmentExpression p ys → Derives VariableDeclaration p (xs ++ token (kind.AssignOp assigning.Assign) a ∷ ys)
  variable : {p : Parameters} {xs : List Token} → Derives VariableDeclaration p xs → Derives VariableDeclarationList p xs
  more_variables : {p : Parameters} {xs ys : List Token} (a : Bool) → Derives VariableDeclarationList p xs → Derives VariableDeclaration p ys → Derives VariableDeclarationList p (xs ++ token kind.Comma a ∷ ys)
  -- Declaration (14): lexical declarations, functions and classes
  lexical_declaration : {p : Parameters} {xs : List Token} (declaring : Keyword) (a b : Bool) → is_lexical declaring ≡ true → Derives VariableDeclarationList (with_in p) xs → Derives Declaration p (reserved declaring a ∷ (xs ++ token kind.Semi b ∷ []))
  function_declaration : {p : Parameters} (name : WordKind) (xs : List Token) (is_generator a b c : Bool) → is_identifier p name ≡ true → Derives ParametersAndBody (in_function is_generator false) xs → Derives Declaration p (reserved keyword.Function a ∷ (star is_generator b ++ (token (kind.Word name) c ∷ xs)))
  async_function_declaration : {p : Parameters} (name : WordKind) (xs : List Token) (is_generator a b c : Bool) → is_identifier p name ≡ true → Derives ParametersAndBody (in_function is_generator true) xs → Derives Declaration p (async a ∷ reserved keyword.Function false ∷ (star is_generator b ++ (token (kind.Word name) c ∷ xs)))
  class_declaration : {p : Parameters} {xs : List Token} (name : WordKind) (a b : Bool) → is_identifier p name ≡ true → Derives ClassTail p xs → Derives Declaration p (reserved keyword.Class a ∷ token (kind.Word name) b ∷ xs)
  -- Statement (14): blocks, empty statements and expressions
  block : {p : Parameters} {xs : List Token} (a b : Bool) → Derives Body p xs → Derives Block p (token kind.LBrace a ∷ xs ++ token kind.RBrace b ∷ [])
  block_statement : {p : Parameters} {xs : List Token} → Derives Block p xs → Derives Statement p xs
  empty_statement : {p : Parameters} (a : Bool) → Derives Statement p (token kind.Semi a ∷ [])
  expression_statement : {p : Parameters} {xs : List Token} (a : Bool) → is_declaration xs ≡ false → Derives Expression (with_in p) xs → Derives Statement p (xs ++ token kind.Semi a ∷ [])
  variable_statement : {p : Parameters} {xs : List Token} (a b : Bool) → Derives VariableDeclarationList (with_in p) xs → Derives Statement p (reserved keyword.Var a ∷ (xs ++ token kind.Semi b ∷ []))
  -- IfStatement (14.6), and `with` (14.11)
  if_statement : {p : Parameters} {xs ys : List Token} (a b c : Bool) → Derives Expression (with_in p) xs → Derives Statement p ys → Derives Statement p (reserved keyword.If a ∷ in_parens b c xs ++ ys)
  if_else : {p : Parameters} {xs ys zs : List Token} (a b c d : Bool) → Derives Expression (with_in p) xs → Derives Statement p ys → Derives Statement p zs → Derives Statement p (reserved keyword.If a ∷ in_parens b c xs ++ (ys ++ reserved keyword.Else d ∷ zs))
  with_statement : {p : Parameters} {xs ys : List Token} (a b c : Bool) → Derives Expression (with_in p) xs → Derives Statement p ys → Derives Statement p (reserved keyword.With a ∷ in_parens b c xs ++ ys)
  -- IterationStatement (14.7)
  do_while : {p : Parameters} {xs ys : List Token} (a b c d f : Bool) → Derives Statement p xs → Derives Expression (with_in p) ys → Derives Statement p (reserved keyword.Do a ∷ (xs ++ (reserved keyword.While b ∷ in_parens c d ys ++ token kind.Semi f ∷ [])))
  while_statement : {p : Parameters} {xs ys : List Token} (a b c : Bool) → Derives Expression (with_in p) xs → Derives Statement p ys → Derives Statement p (reserved keyword.While a ∷ in_parens b c xs ++ ys)
  for_statement : {p : Parameters} {xs ys : List Token} (a b c : Bool) → Derives ForHead p xs → Derives Statement p ys → Derives Statement p (reserved keyword.For a ∷ in_parens b c xs ++ ys)
  for_await : {p : Parameters} {xs ys : List Token} (a b c d : Bool) → p.is_async ≡ true → Derives ForOfHead p xs → Derives Statement p ys → Derives Statement p (reserved keyword.For a ∷ reserved keyword.Await b ∷ in_parens c d xs ++ ys)
  no_test : {p : Parameters} → Derives OptionalTest p []
  test : {p : Parameters} {xs : List Token} → Derives Expression p xs → Derives OptionalTest p xs
  for_expressions : {p : Parameters} {xs ys zs : List Token} (a b : Bool) → Derives OptionalTest (without_in p) xs → Derives OptionalTest (with_in p) ys → Derives OptionalTest (with_in p) zs → Derives ForHead p (xs ++ (token kind.Semi a ∷ ys ++ token kind.Semi b ∷ zs))
  for_variables : {p : Parameters} {xs ys zs : List Token} (declaring : Keyword) (a b c : Bool) → is_declaring declaring ≡ true → Derives VariableDeclarationList (without_in p) xs → Derives OptionalTest (with_in p) ys → Derives OptionalTest (with_in p) zs → Derives ForHead p (reserved declaring a ∷ (xs ++ (token kind.Semi b ∷ ys ++ token kind.Semi c ∷ zs)))
  for_in : {p : Parameters} {xs ys : List Token} (a : Bool) → Derives LeftHandSideExpression p xs → Derives Expression (with_in p) ys → Derives ForHead p (xs ++ reserved keyword.In a ∷ ys)
  for_variable_in : {p : Parameters} {xs ys : List Token} (declaring : Keyword) (a b : Bool) → is_declaring declaring ≡ true → Derives BindingTarget p xs → Derives Expression (with_in p) ys → Derives ForHead p (reserved declaring a ∷ (xs ++ reserved keyword.In b ∷ ys))
  for_of_head : {p : Parameters} {xs : List Token} → Derives ForOfHead p xs → Derives ForHead p xs
  for_of : {p : Parameters} {xs ys : List Token} (a : Bool) → Derives LeftHandSideExpression p xs → Derives AssignmentExpression (with_in p) ys → Derives ForOfHead p (xs ++ of a ∷ ys)
  for_variable_of : {p : Parameters} {xs ys : List Token} (declaring : Keyword) (a b : Bool) → is_declaring declaring ≡ true → Derives BindingTarget p xs → Derives AssignmentExpression (with_in p) ys → Derives ForOfHead p (reserved declaring a ∷ (xs ++ of b ∷ ys))
  -- Statements that leave (14.8 to 14.10, 14.14): no line terminator behind the word
  continue_statement : {p : Parameters} (a b : Bool) → Derives Statement p (reserved keyword.Continue a ∷ token kind.Semi b ∷ [])
  continue_label : {p : Parameters} (name : WordKind) (a b : Bool) → is_identifier p name ≡ true → Derives Statement p (reserved keyword.Continue a ∷ token (kind.Word name) false ∷ token kind.Semi b ∷ [])
  break_statement : {p : Parameters} (a b : Bool) → Derives Statement p (reserved keyword.Break a ∷ token kind.Semi b ∷ [])
  break_label : {p : Parameters} (name : WordKind) (a b : Bool) → is_identifier p name ≡ true → Derives Statement p (reserved keyword.Break a ∷ token (kind.Word name) false ∷ token kind.Semi b ∷ [])
  return_statement : {p : Parameters} (a b : Bool) → Derives Statement p (reserved keyword.Return a ∷ token kind.Semi b ∷ [])
  return_value : {p : Parameters} {xs : List Token} (a b : Bool) → is_on_line xs ≡ true → Derives Expression (with_in p) xs → Derives Statement p (reserved keyword.Return a ∷ (xs ++ token kind.Semi b ∷ []))
  throw_statement : {p : Parameters} {xs : List Token} (a b : Bool) → is_on_line xs ≡ true → Derives Expression (with_in p) xs → Derives Statement p (reserved keyword.Throw a ∷ (xs ++ token kind.Semi b ∷ []))
  -- SwitchStatement (14.12)
  switch_statement : {p : Parameters} {xs ys : List Token} (a b c d f : Bool) → Derives Expression (with_in p) xs → Derives CaseClauses p ys → Derives Statement p (reserved keyword.Switch a ∷ in_parens b c xs ++ (token kind.LBrace d ∷ ys ++ token kind.RBrace f ∷ []))
  switch_default : {p : Parameters} {xs ys zs ws : List Token} (a b c d f g h : Bool) → Derives Expression (with_in p) xs → Derives CaseClauses p ys → Derives StatementList p zs → Derives CaseClauses p ws → Derives Statement p (reserved keyword.Switch a ∷ in_parens b c xs ++ (token kind.LBrace d ∷ (ys ++ (reserved keyword.Default_ f ∷ token kind.Colon g ∷ zs ++ ws)) ++ token kind.RBrace h ∷ []))
  no_clauses : {p : Parameters} → Derives CaseClauses p []
  more_clauses : {p : Parameters} {xs ys zs : List Token} (a b : Bool) → Derives CaseClauses p xs → Derives Expression (with_in p) ys → Derives StatementList p zs → Derives CaseClauses p (xs ++ (reserved keyword.Case a ∷ ys ++ token kind.Colon b ∷ zs))
  -- LabelledStatement (14.13)
  labelled : {p : Parameters} {xs : List Token} (name : WordKind) (a b : Bool) → is_identifier p name ≡ true → Derives Statement p xs → Derives Statement p (token (kind.Word name) a ∷ token kind.Colon b ∷ xs)
  labelled_function : {p : Parameters} {xs : List Token} (name function : WordKind) (a b c d : Bool) → is_identifier p name ≡ true → is_identifier p function ≡ true → Derives ParametersAndBody (in_function false false) xs → Derives Statement p (token (kind.Word name) a ∷ token kind.Colon b ∷ reserved keyword.Function c ∷ token (kind.Word function) d ∷ xs)
  -- TryStatement (14.15), and `debugger` (14.16)
  try_catch : {p : Parameters} {xs ys : List Token} (a : Bool) → Derives Block p xs → Derives Catch p ys → Derives Statement p (reserved keyword.Try a ∷ (xs ++ ys))
  try_finally : {p : Parameters} {xs ys : List Token} (a : Bool) → Derives Block p xs → Derives Finally p ys → Derives Statement p (reserved keyword.Try a ∷ (xs ++ ys))
  try_catch_finally : {p : Parameters} {xs ys zs : List Token} (a : Bool) → Derives Block p xs → Derives Catch p ys → Derives Finally p zs → Derives Statement p (reserved keyword.Try a ∷ (xs ++ (ys ++ zs)))
  catch_block : {p : Parameters} {xs : List Token} (a : Bool) → Derives Block p xs → Derives Catch p (reserved keyword.Catch a ∷ xs)
  catch_parameter : {p : Parameters} {xs ys : List Token} (a b c : Bool) → Derives BindingTarget p xs → Derives Block p ys → Derives Catch p (reserved keyword.Catch a ∷ in_parens b c xs ++ ys)
  finally : {p : Parameters} {xs : List Token} (a : Bool) → Derives Block p xs → Derives Finally p (reserved keyword.Finally a ∷ xs)
  debugger : {p : Parameters} (a b : Bool) → Derives Statement p (reserved keyword.Debugger a ∷ token kind.Semi b ∷ [])
  -- StatementList (14.2)
  item_statement : {p : Parameters} {xs : List Token} → Derives Statement p xs → Derives StatementListItem p xs
  item_declaration : {p : Parameters} {xs : List Token} → Derives Declaration p xs → Derives StatementListItem p xs
  no_statements : {p : Parameters} → Derives StatementList p []
  more_statements : {p : Parameters} {xs ys : List Token} → Derives StatementList p xs → Derives StatementListItem p ys → Derives StatementList p (xs ++ ys)
  -- Semicolons that are not written (12.10.1): a right brace comes next, or a line that begins with a token with which nothing
  -- goes on. A list is open where that of its last statement is not written
  line_end : {p : Parameters} {xs ys : List Token} → Derives OpenList p xs → Derives StatementListItem p ys → begins_anew ys ≡ true → Derives StatementList p (xs ++ ys)
  open_list : {p : Parameters} {xs ys : List Token} → Derives StatementList p xs → Derives OpenStatement p ys → Derives OpenList p (xs ++ ys)
  open_lexical : {p : Parameters} {xs ys : List Token} (declaring : Keyword) (a : Bool) → is_lexical declaring ≡ true → Derives StatementList p xs → Derives VariableDeclarationList (with_in p) ys → Derives OpenList p (xs ++ reserved declaring a ∷ ys)
  open_line : {p : Parameters} {xs ys : List Token} → Derives OpenList p xs → Derives OpenStatement p ys → begins_anew ys ≡ true → Derives OpenList p (xs ++ ys)
  open_lexical_line : {p : Parameters} {xs ys : List Token} (declaring : Keyword) → is_lexical declaring ≡ true → Derives OpenList p xs → Derives VariableDeclarationList (with_in p) ys → Derives OpenList p (xs ++ reserved declaring true ∷ ys)
  body : {p : Parameters} {xs : List Token} → Derives StatementList p xs → Derives Body p xs
  body_open : {p : Parameters} {xs : List Token} → Derives OpenList p xs → Derives Body p xs
  open_expression : {p : Parameters} {xs : List Token} → is_declaration xs ≡ false → Derives Expression (with_in p) xs → Derives OpenStatement p xs
  open_variables : {p : Parameters} {xs : List Token} (a : Bool) → Derives VariableDeclarationList (with_in p) xs → Derives OpenStatement p (reserved keyword.Var a ∷ xs)
  open_if : {p : Parameters} {xs ys : List Token} (a b c : Bool) → Derives Expression (with_in p) xs → Derives OpenStatement p ys → Derives OpenStatement p (reserved keyword.If a ∷ in_parens b c xs ++ ys)
  open_else : {p : Parameters} {xs ys zs : List Token} (a b c d : Bool) → Derives Expression (with_in p) xs → Derives Statement p ys → Derives OpenStatement p zs → Derives OpenStatement p (reserved keyword.If a ∷ in_parens b c xs ++ (ys ++ reserved keyword.Else d ∷ zs))
  open_with : {p : Parameters} {xs ys : List Token} (a b c : Bool) → Derives Expression (with_in p) xs → Derives OpenStatement p ys → Derives OpenStatement p (reserved keyword.With a ∷ in_parens b c xs ++ ys)
  open_do : {p : Parameters} {xs ys : List Token} (a b c d : Bool) → Derives Statement p xs → Derives Expression (with_in p) ys → Derives OpenStatement p (reserved keyword.Do a ∷ (xs ++ (reserved keyword.While b ∷ in_parens c d ys)))
  open_while : {p : Parameters} {xs ys : List Token} (a b c : Bool) → Derives Expression (with_in p) xs → Derives OpenStatement p ys → Derives OpenStatement p (reserved keyword.While a ∷ in_parens b c xs ++ ys)
  open_for : {p : Parameters} {xs ys : List Token} (a b c : Bool) → Derives ForHead p xs → Derives OpenStatement p ys → Derives OpenStatement p (reserved keyword.For a ∷ in_parens b c xs ++ ys)
  open_for_await : {p : Parameters} {xs ys : List Token} (a b c d : Bool) → p.is_async ≡ true → Derives ForOfHead p xs → Derives OpenStatement p ys → Derives OpenStatement p (reserved keyword.For a ∷ reserved keyword.Await b ∷ in_parens c d xs ++ ys)
  open_continue : {p : Parameters} (a : Bool) → Derives OpenStatement p (reserved keyword.Continue a ∷ [])
  open_continue_label : {p : Parameters} (name : WordKind) (a : Bool) → is_identifier p name ≡ true → Derives OpenStatement p (reserved keyword.Continue a ∷ token (kind.Word name) false ∷ [])
  open_break : {p : Parameters} (a : Bool) → Derives OpenStatement p (reserved keyword.Break a ∷ [])
  open_break_label : {p : Parameters} (name : WordKind) (a : Bool) → is_identifier p name ≡ true → Derives OpenStatement p (reserved keyword.Break a ∷ token (kind.Word name) false ∷ [])
  open_return : {p : Parameters} (a : Bool) → Derives OpenStatement p (reserved keyword.Return a ∷ [])
  open_return_value : {p : Parameters} {xs : List Token} (a : Bool) → is_on_line xs ≡ true → Derives Expression (with_in p) xs → Derives OpenStatement p (reserved keyword.Return a ∷ xs)
  open_throw : {p : Parameters} {xs : List Token} (a : Bool) → is_on_line xs ≡ true → Derives Expression (with_in p) xs → Derives OpenStatement p (reserved keyword.Throw a ∷ xs)
  open_labelled : {p : Parameters} {xs : List Token} (name : WordKind) (a b : Bool) → is_identifier p name ≡ true → Derives OpenStatement p xs → Derives OpenStatement p (token (kind.Word name) a ∷ token kind.Colon b ∷ xs)
  open_debugger : {p : Parameters} (a : Bool) → Derives OpenStatement p (reserved keyword.Debugger a ∷ [])
  -- Modules (16.2): names in braces, with `as`; a string in the place of a binding is not looked at
  specifier : {p : Parameters} (name : TokenKind) (a : Bool) → is_export_name name ≡ true → Derives SpecifierList p (token name a ∷ [])
  renamed : {p : Parameters} (name other : TokenKind) (a b c : Bool) → is_export_name name ≡ true → is_export_name other ≡ true → Derives SpecifierList p (token name a ∷ as_word b ∷ token other c ∷ [])
  more_specifiers : {p : Parameters} {xs ys : List Token} (a : Bool) → Derives SpecifierList p xs → Derives SpecifierList p ys → Derives SpecifierList p (xs ++ token kind.Comma a ∷ ys)
  no_specifiers : {p : Parameters} (a b : Bool) → Derives NamedSpecifiers p (token kind.LBrace a ∷ token kind.RBrace b ∷ [])
  specifiers : {p : Parameters} {xs : List Token} (a b : Bool) → Derives SpecifierList p xs → Derives NamedSpecifiers p (token kind.LBrace a ∷ xs ++ token kind.RBrace b ∷ [])
  specifiers_comma : {p : Parameters} {xs : List Token} (a b c : Bool) → Derives SpecifierList p xs → Derives NamedSpecifiers p (token kind.LBrace a ∷ xs ++ token kind.Comma b ∷ token kind.RBrace c ∷ [])
  -- WithClause, or none, and the semicolon (16.2.2)
  module_end : {p : Parameters} (a : Bool) → Derives ModuleEnd p (token kind.Semi a ∷ [])
  module_end_none : {p : Parameters} (a b c d : Bool) → Derives ModuleEnd p (reserved keyword.With a ∷ token kind.LBrace b ∷ token kind.RBrace c ∷ token kind.Semi d ∷ [])
  module_end_with : {p : Parameters} {xs : List Token} (a b c d : Bool) → Derives AttributeList p xs → Derives ModuleEnd p (reserved keyword.With a ∷ token kind.LBrace b ∷ (xs ++ token kind.RBrace c ∷ token kind.Semi d ∷ []))
  module_end_comma : {p : Parameters} {xs : List Token} (a b c d f : Bool) → Derives AttributeList p xs → Derives ModuleEnd p (reserved keyword.With a ∷ token kind.LBrace b ∷ (xs ++ token kind.Comma c ∷ token kind.RBrace d ∷ token kind.Semi f ∷ []))
  attribute : {p : Parameters} (name : TokenKind) (a b c : Bool) → is_export_name name ≡ true → Derives AttributeList p (token name a ∷ token kind.Colon b ∷ token kind.Str c ∷ [])
  more_attributes : {p : Parameters} {xs ys : List Token} (a : Bool) → Derives AttributeList p xs → Derives AttributeList p ys → Derives AttributeList p (xs ++ token kind.Comma a ∷ ys)
  -- ImportDeclaration (16.2.2)
  import_default : {p : Parameters} (name : WordKind) (a : Bool) → is_identifier p name ≡ true → Derives ImportClause p (token (kind.Word name) a ∷ [])
  import_namespace : {p : Parameters} (name : WordKind) (a b c : Bool) → is_identifier p name ≡ true → Derives ImportClause p (token (kind.BinOp binary.Mul) a ∷ as_word b ∷ token (kind.Word name) c ∷ [])
  import_named : {p : Parameters} {xs : List Token} → Derives NamedSpecifiers p xs → Derives ImportClause p xs
  import_default_namespace : {p : Parameters} (name other : WordKind) (a b c d f : Bool) → is_identifier p name ≡ true → is_identifier p other ≡ true → Derives ImportClause p (token (kind.Word name) a ∷ token kind.Comma b ∷ token (kind.BinOp binary.Mul) c ∷ as_word d ∷ token (kind.Word other) f ∷ [])
  import_default_named : {p : Parameters} {xs : List Token} (name : WordKind) (a b : Bool) → is_identifier p name ≡ true → Derives NamedSpecifiers p xs → Derives ImportClause p (token (kind.Word name) a ∷ token kind.Comma b ∷ xs)
  import_from : {p : Parameters} {xs ys : List Token} (a b c : Bool) → Derives ImportClause p xs → Derives ModuleEnd p ys → Derives ModuleItem p (reserved keyword.Import a ∷ (xs ++ from b ∷ token kind.Str c ∷ ys))
  import_module : {p : Parameters} {xs : List Token} (a b : Bool) → Derives ModuleEnd p xs → Derives ModuleItem p (reserved keyword.Import a ∷ token kind.Str b ∷ xs)
  -- ExportDeclaration (16.2.3)
  export_all : {p : Parameters} {xs : List Token} (a b c d : Bool) → Derives ModuleEnd p xs → Derives ModuleItem p (reserved keyword.Export a ∷ token (kind.BinOp binary.Mul) b ∷ from c ∷ token kind.Str d ∷ xs)
  export_all_as : {p : Parameters} {xs : List Token} (name : TokenKind) (a b c d f g : Bool) → is_export_name name ≡ true → Derives ModuleEnd p xs → Derives ModuleItem p (reserved keyword.Export a ∷ token (kind.BinOp binary.Mul) b ∷ as_word c ∷ token name d ∷ from f ∷ token kind.Str g ∷ xs)
  export_from : {p : Parameters} {xs ys : List Token} (a b c : Bool) → Derives NamedSpecifiers p xs → Derives ModuleEnd p ys → Derives ModuleItem p (reserved keyword.Export a ∷ (xs ++ from b ∷ token kind.Str c ∷ ys))
  export_named : {p : Parameters} {xs : List Token} (a b : Bool) → Derives NamedSpecifiers p xs → Derives ModuleItem p (reserved keyword.Export a ∷ (xs ++ token kind.Semi b ∷ []))
  export_variables : {p : Parameters} {xs : List Token} (a b c : Bool) → Derives VariableDeclarationList (with_in p) xs → Derives ModuleItem p (reserved keyword.Export a ∷ reserved keyword.Var b ∷ (xs ++ token kind.Semi c ∷ []))
  export_declaration : {p : Parameters} {xs : List Token} (a : Bool) → Derives Declaration p xs → Derives ModuleItem p (reserved keyword.Export a ∷ xs)
  export_default_function : {p : Parameters} (name xs : List Token) (is_generator a b c d : Bool) → is_optional_name p name ≡ true → Derives ParametersAndBody (in_function is_generator false) xs → Derives ModuleItem p (reserved keyword.Export a ∷ reserved keyword.Default_ b ∷ reserved keyword.Function c ∷ (star is_generator d ++ (name ++ xs)))
  export_default_async : {p : Parameters} (name xs : List Token) (is_generator a b c d : Bool) → is_optional_name p name ≡ true → Derives ParametersAndBody (in_function is_generator true) xs → Derives ModuleItem p (reserved keyword.Export a ∷ reserved keyword.Default_ b ∷ async c ∷ reserved keyword.Function false ∷ (star is_generator d ++ (name ++ xs)))
  export_default_class : {p : Parameters} (name xs : List Token) (a b c : Bool) → is_optional_name p name ≡ true → Derives ClassTail p xs → Derives ModuleItem p (reserved keyword.Export a ∷ reserved keyword.Default_ b ∷ reserved keyword.Class c ∷ (name ++ xs))
  export_default : {p : Parameters} {xs : List Token} (a b c : Bool) → is_default_declaration xs ≡ false → Derives AssignmentExpression (with_in p) xs → Derives ModuleItem p (reserved keyword.Export a ∷ reserved keyword.Default_ b ∷ (xs ++ token kind.Semi c ∷ []))
  -- ModuleItemList (16.2)
  module_statements : {p : Parameters} {xs : List Token} → Derives StatementList p xs → Derives ModuleItem p xs
  no_items : {p : Parameters} → Derives ModuleItemList p []
  more_items : {p : Parameters} {xs ys : List Token} → Derives ModuleItemList p xs → Derives ModuleItem p ys → Derives ModuleItemList p (xs ++ ys)
