-- Which words are no names in a context.
--
-- ECMA-262, 12.7.2, calls these ReservedWord, and 13.1.1 adds those of strict mode code, of generators, of async
-- functions, of static blocks and of modules. The table is our own choice.
use Rattle.std.specs.Prelude.{Bool, true, false, ◌||◌}
use Rattle.ecma_syntax.specs.declared.context.Context.{Context}
use Rattle.ecma_word.specs.declared.keyword.Keyword.{Keyword}
use Rattle.ecma_word.specs.declared.keyword.Keyword.TheVariants.{Await, Let, Yield}
use Rattle.ecma_word.specs.declared.known_ident.KnownIdent.{KnownIdent}
use Rattle.ecma_word.specs.declared.known_ident.KnownIdent.TheVariants.{Enum, Static, Implements, Interface, Package, Private, Protected, Public}
use Rattle.ecma_word.specs.declared.word.IdentLike.TheVariants.{Known, Other}
use Rattle.ecma_word.specs.declared.word.Word.{Word}
use Rattle.ecma_word.specs.declared.word.Word.TheVariants as word

-- every keyword, apart from three that are names in some contexts
abbrev pub is_reserved_keyword : Context → Keyword → Bool
is_reserved_keyword context Let = context.strict
is_reserved_keyword context Yield = context.in_generator || context.strict
is_reserved_keyword context Await = context.in_async || context.in_static_block || context.module
is_reserved_keyword context _ = true

-- `enum`, and under strict mode seven more
abbrev pub is_reserved_name : Context → KnownIdent → Bool
is_reserved_name context Enum = true
is_reserved_name context Static = context.strict
is_reserved_name context Implements = context.strict
is_reserved_name context Interface = context.strict
is_reserved_name context Package = context.strict
is_reserved_name context Private = context.strict
is_reserved_name context Protected = context.strict
is_reserved_name context Public = context.strict
is_reserved_name context _ = false

-- the literal words always, any other name never
abbrev pub is_reserved : Context → Word → Bool
is_reserved context (word.Keyword k) = is_reserved_keyword context k
is_reserved context word.Null = true
is_reserved context word.True = true
is_reserved context word.False = true
is_reserved context (word.Ident (Known k)) = is_reserved_name context k
is_reserved context (word.Ident (Other text)) = false
