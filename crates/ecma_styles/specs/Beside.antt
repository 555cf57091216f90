-- Questions of what stands beside a token.
use Rattle.std.specs.Prelude.{Bool, true, false, not, ◌&&◌, Option, Some}
use Rattle.ecma_word.specs.declared.keyword.Keyword.TheVariants as keyword
use Rattle.ecma_word.specs.declared.known_ident.KnownIdent.TheVariants as known
use Rattle.ecma_word.specs.declared.word.WordKind.TheVariants as word
use Rattle.ecma_word.specs.declared.word.IdentKind.TheVariants as ident
use Rattle.ecma_word.specs.declared.operator.BinOpToken.TheVariants as binary
use Rattle.ecma_token.specs.declared.kind.TokenKind.{TokenKind}
use Rattle.ecma_token.specs.declared.kind.TokenKind.TheVariants as kind
use Rattle.ecma_role_table.specs.declared.frame.FrameKind.{FrameKind}
use Rattle.ecma_role_table.specs.declared.frame.FrameKind.TheVariants as frame
use Rattle.ecma_role_table.specs.declared.state.State.{State}
use Rattle.ecma_role_table.specs.declared.state.State.TheVariants as state

-- a kind

abbrev pub is_dot : Option TokenKind → Bool
is_dot (Some kind.Dot) = true
is_dot _ = false

abbrev pub is_colon : Option TokenKind → Bool
is_colon (Some kind.Colon) = true
is_colon _ = false

abbrev pub is_question : Option TokenKind → Bool
is_question (Some kind.QuestionMark) = true
is_question _ = false

abbrev pub is_paren : Option TokenKind → Bool
is_paren (Some kind.LParen) = true
is_paren _ = false

abbrev pub is_star : Option TokenKind → Bool
is_star (Some (kind.BinOp binary.Mul)) = true
is_star _ = false

abbrev pub is_text : Option TokenKind → Bool
is_text (Some kind.Str) = true
is_text _ = false

abbrev pub is_word : Option TokenKind → Bool
is_word (Some (kind.Word w)) = true
is_word _ = false

-- a word that is not reserved
abbrev pub is_ident : Option TokenKind → Bool
is_ident (Some (kind.Word (word.Ident i))) = true
is_ident _ = false

abbrev pub is_class : Option TokenKind → Bool
is_class (Some (kind.Word (word.Keyword keyword.Class))) = true
is_class _ = false

abbrev pub is_import : Option TokenKind → Bool
is_import (Some (kind.Word (word.Keyword keyword.Import))) = true
is_import _ = false

abbrev pub is_typeof : Option TokenKind → Bool
is_typeof (Some (kind.Word (word.Keyword keyword.TypeOf))) = true
is_typeof _ = false

abbrev pub is_new : Option TokenKind → Bool
is_new (Some (kind.Word (word.Keyword keyword.New))) = true
is_new _ = false

abbrev pub is_as : Option TokenKind → Bool
is_as (Some (kind.Word (word.Ident (ident.Known known.As)))) = true
is_as _ = false

abbrev pub is_from : Option TokenKind → Bool
is_from (Some (kind.Word (word.Ident (ident.Known known.From)))) = true
is_from _ = false

abbrev pub is_is : Option TokenKind → Bool
is_is (Some (kind.Word (word.Ident (ident.Known known.Is)))) = true
is_is _ = false

abbrev pub is_declare : Option TokenKind → Bool
is_declare (Some (kind.Word (word.Ident (ident.Known known.Declare)))) = true
is_declare _ = false

-- a class is named behind it
abbrev pub names_class : Option TokenKind → Bool
names_class (Some (kind.Word (word.Keyword keyword.New))) = true
names_class (Some (kind.Word (word.Keyword keyword.Extends))) = true
names_class _ = false

-- a key begins with it, so that a word before it is none; a static block too
abbrev pub begins_key : Option TokenKind → Bool
begins_key (Some (kind.Word w)) = true
begins_key (Some kind.Str) = true
begins_key (Some kind.Num) = true
begins_key (Some kind.BigInt) = true
begins_key (Some kind.LBracket) = true
begins_key (Some kind.LBrace) = true
begins_key (Some kind.Hash) = true
begins_key (Some (kind.BinOp binary.Mul)) = true
begins_key _ = false

-- the parameters of a method begin with it, or its type parameters
abbrev pub begins_parameters : Option TokenKind → Bool
begins_parameters (Some kind.LParen) = true
begins_parameters (Some (kind.BinOp binary.Lt)) = true
begins_parameters _ = false

-- a type begins with it, behind a word that changes types
abbrev pub begins_type : Option TokenKind → Bool
begins_type (Some (kind.Word w)) = true
begins_type (Some kind.LBracket) = true
begins_type (Some kind.LBrace) = true
begins_type (Some kind.LParen) = true
begins_type _ = false

-- an async function begins with it, behind `async`: parentheses too, though a call of `async` has them
abbrev pub begins_async : Option TokenKind → Bool
begins_async (Some (kind.Word (word.Ident i))) = true
begins_async (Some (kind.Word (word.Keyword keyword.Function))) = true
begins_async (Some kind.LParen) = true
begins_async _ = false

-- what is imported, behind a word for how: braces, all, or a name but `from`
abbrev pub begins_import : Option TokenKind → Bool
begins_import (Some kind.LBrace) = true
begins_import (Some (kind.BinOp binary.Mul)) = true
begins_import other = is_ident other && not (is_from other)

-- a word that is no operator
abbrev pub is_declared : Option TokenKind → Bool
is_declared (Some (kind.Word (word.Keyword keyword.In))) = false
is_declared (Some (kind.Word (word.Keyword keyword.InstanceOf))) = false
is_declared (Some (kind.Word (word.Ident (ident.Known known.As)))) = false
is_declared (Some (kind.Word (word.Ident (ident.Known known.Satisfies)))) = false
is_declared (Some (kind.Word (word.Ident (ident.Known known.Of)))) = false
is_declared other = is_word other

-- what is expected

-- the token was a key of an object, or named a member of a class or an enumeration
abbrev pub is_key : State → Bool
is_key state.Key = true
is_key state.KeyAsync = true
is_key state.KeyCommaName = true
is_key state.KeyCommaParameter = true
is_key state.Member = true
is_key state.MemberAsync = true
is_key _ = false

-- what is open

-- an object, in which a name alone is a key and its value
abbrev pub is_object : Option FrameKind → Bool
is_object (Some frame.Object) = true
is_object (Some frame.Candidate) = true
is_object _ = false

abbrev pub is_type_brace : Option FrameKind → Bool
is_type_brace (Some frame.InnerBrace) = true
is_type_brace (Some frame.OuterBrace) = true
is_type_brace (Some frame.Interface) = true
is_type_brace _ = false

abbrev pub is_type_paren : Option FrameKind → Bool
is_type_paren (Some frame.InnerParen) = true
is_type_paren (Some frame.OuterParen) = true
is_type_paren (Some frame.OuterPattern) = true
is_type_paren (Some frame.OuterParameters) = true
is_type_paren _ = false

abbrev pub is_type_bracket : Option FrameKind → Bool
is_type_bracket (Some frame.InnerBracket) = true
is_type_bracket (Some frame.OuterBracket) = true
is_type_bracket _ = false
