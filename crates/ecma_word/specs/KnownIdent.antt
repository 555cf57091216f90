-- The known names, in their order, and their texts.
use Rattle.std.specs.Prelude.{ℕ, Bool, List, [], ◌∷◌, Option, codes, find, nat_eq}
use Rattle.std.specs.Cmp.Lexicographic.{pointwise}
use Rattle.ecma_word.specs.declared.known_ident.KnownIdent.{KnownIdent}
use Rattle.ecma_word.specs.declared.known_ident.KnownIdent.TheVariants.{Abstract, As, Async, From, Of, Type_, Global, Static, Using, Readonly, Unique, Keyof, Declare, Enum, Is, Infer, Symbol, Undefined, Interface, Implements, Asserts, Require, Get, Set, Any, Intrinsic, Unknown, String, Object, Number, Bigint, Boolean, Never, Assert, Namespace, Accessor, Meta, Target, Satisfies, Package, Protected, Private, Public}

abbrev pub known_text : KnownIdent → List ℕ
known_text Abstract = codes "abstract"
known_text As = codes "as"
known_text Async = codes "async"
known_text From = codes "from"
known_text Of = codes "of"
known_text Type_ = codes "type"
known_text Global = codes "global"
known_text Static = codes "static"
known_text Using = codes "using"
known_text Readonly = codes "readonly"
known_text Unique = codes "unique"
known_text Keyof = codes "keyof"
known_text Declare = codes "declare"
known_text Enum = codes "enum"
known_text Is = codes "is"
known_text Infer = codes "infer"
known_text Symbol = codes "symbol"
known_text Undefined = codes "undefined"
known_text Interface = codes "interface"
known_text Implements = codes "implements"
known_text Asserts = codes "asserts"
known_text Require = codes "require"
known_text Get = codes "get"
known_text Set = codes "set"
known_text Any = codes "any"
known_text Intrinsic = codes "intrinsic"
known_text Unknown = codes "unknown"
known_text String = codes "string"
known_text Object = codes "object"
known_text Number = codes "number"
known_text Bigint = codes "bigint"
known_text Boolean = codes "boolean"
known_text Never = codes "never"
known_text Assert = codes "assert"
known_text Namespace = codes "namespace"
known_text Accessor = codes "accessor"
known_text Meta = codes "meta"
known_text Target = codes "target"
known_text Satisfies = codes "satisfies"
known_text Package = codes "package"
known_text Protected = codes "protected"
known_text Private = codes "private"
known_text Public = codes "public"

abbrev pub all_known : List KnownIdent
all_known =
    Abstract ∷ As ∷ Async ∷ From ∷ Of ∷ Type_ ∷ Global ∷ Static ∷ Using ∷ Readonly ∷ Unique ∷ Keyof ∷ Declare ∷ Enum ∷ Is ∷ Infer ∷ Symbol ∷ Undefined ∷ Interface ∷ Implements ∷ Asserts ∷ Require ∷ Get ∷ Set ∷ Any ∷ Intrinsic ∷ Unknown ∷ String ∷ Object ∷ Number ∷ Bigint ∷ Boolean ∷ Never ∷ Assert ∷ Namespace ∷ Accessor ∷ Meta ∷ Target ∷ Satisfies ∷ Package ∷ Protected ∷ Private ∷ Public ∷ []

-- this is the text of k
abbrev pub is_known_text : List ℕ → KnownIdent → Bool
is_known_text text k = pointwise nat_eq (known_text k) text

-- the one whose text this is
unfoldable pub known_of : List ℕ → Option KnownIdent
known_of text = find (is_known_text text) all_known
