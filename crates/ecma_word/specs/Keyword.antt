-- The keywords, in their order, and their texts.
use Rattle.std.specs.Prelude.{ℕ, Bool, List, [], ◌∷◌, Option, codes, find, nat_eq}
use Rattle.std.specs.Cmp.Lexicographic.{pointwise}
use Rattle.ecma_word.specs.declared.keyword.Keyword.{Keyword}
use Rattle.ecma_word.specs.declared.keyword.Keyword.TheVariants.{Await, Break, Case, Catch, Continue, Debugger, Default_, Do, Else, Finally, For, Function, If, Return, Switch, Throw, Try, Var, Let, Const, While, With, New, This, Super, Class, Extends, Export, Import, Yield, In, InstanceOf, TypeOf, Void, Delete}

abbrev pub keyword_text : Keyword → List ℕ
keyword_text Await = codes "await"
keyword_text Break = codes "break"
keyword_text Case = codes "case"
keyword_text Catch = codes "catch"
keyword_text Continue = codes "continue"
keyword_text Debugger = codes "debugger"
keyword_text Default_ = codes "default"
keyword_text Do = codes "do"
keyword_text Else = codes "else"
keyword_text Finally = codes "finally"
keyword_text For = codes "for"
keyword_text Function = codes "function"
keyword_text If = codes "if"
keyword_text Return = codes "return"
keyword_text Switch = codes "switch"
keyword_text Throw = codes "throw"
keyword_text Try = codes "try"
keyword_text Var = codes "var"
keyword_text Let = codes "let"
keyword_text Const = codes "const"
keyword_text While = codes "while"
keyword_text With = codes "with"
keyword_text New = codes "new"
keyword_text This = codes "this"
keyword_text Super = codes "super"
keyword_text Class = codes "class"
keyword_text Extends = codes "extends"
keyword_text Export = codes "export"
keyword_text Import = codes "import"
keyword_text Yield = codes "yield"
keyword_text In = codes "in"
keyword_text InstanceOf = codes "instanceof"
keyword_text TypeOf = codes "typeof"
keyword_text Void = codes "void"
keyword_text Delete = codes "delete"

abbrev pub all_keywords : List Keyword
all_keywords =
    Await ∷ Break ∷ Case ∷ Catch ∷ Continue ∷ Debugger ∷ Default_ ∷ Do ∷ Else ∷ Finally ∷ For ∷ Function ∷ If ∷ Return ∷ Switch ∷ Throw ∷ Try ∷ Var ∷ Let ∷ Const ∷ While ∷ With ∷ New ∷ This ∷ Super ∷ Class ∷ Extends ∷ Export ∷ Import ∷ Yield ∷ In ∷ InstanceOf ∷ TypeOf ∷ Void ∷ Delete ∷ []

-- this is the text of k
abbrev pub is_keyword_text : List ℕ → Keyword → Bool
is_keyword_text text k = pointwise nat_eq (keyword_text k) text

-- the one whose text this is
unfoldable pub keyword_of : List ℕ → Option Keyword
keyword_of text = find (is_keyword_text text) all_keywords
