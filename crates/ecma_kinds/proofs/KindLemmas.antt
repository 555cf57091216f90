-- Each number of a kind leads back to it.
use Rattle.std.proofs.Common.{ℕ, ◌≡◌, List, [], ◌∷◌, Option, Some, refl, sym, ap, ◌∙◌}
use Rattle.std.specs.Prelude.{find, nat_eq}
use Rattle.ecma_word.specs.declared.keyword.Keyword.TheVariants as keyword
use Rattle.ecma_word.specs.declared.known_ident.KnownIdent.TheVariants as knownident
use Rattle.ecma_word.specs.declared.operator.BinOpToken.TheVariants as binoptoken
use Rattle.ecma_word.specs.declared.operator.AssignOp.TheVariants as assignop
use Rattle.ecma_word.specs.declared.word.WordKind.TheVariants as wordkind
use Rattle.ecma_word.specs.declared.word.IdentKind.TheVariants as identkind
use Rattle.ecma_token_kind.specs.declared.kind.TokenKind.{TokenKind}
use Rattle.ecma_token_kind.specs.declared.kind.TokenKind.TheVariants as tokenkind
use Rattle.ecma_kinds.specs.KindNumbers.{kind_number, KindsAreToldApart}

all_kinds : List TokenKind
all_kinds =
    (tokenkind.Word (wordkind.Keyword keyword.Await))
    ∷ (tokenkind.Word (wordkind.Keyword keyword.Break))
    ∷ (tokenkind.Word (wordkind.Keyword keyword.Case))
    ∷ (tokenkind.Word (wordkind.Keyword keyword.Catch))
    ∷ (tokenkind.Word (wordkind.Keyword keyword.Continue))
    ∷ (tokenkind.Word (wordkind.Keyword keyword.Debugger))
    ∷ (tokenkind.Word (wordkind.Keyword keyword.Default_))
    ∷ (tokenkind.Word (wordkind.Keyword keyword.Do))
    ∷ (tokenkind.Word (wordkind.Keyword keyword.Else))
    ∷ (tokenkind.Word (wordkind.Keyword keyword.Finally))
    ∷ (tokenkind.Word (wordkind.Keyword keyword.For))
    ∷ (tokenkind.Word (wordkind.Keyword keyword.Function))
    ∷ (tokenkind.Word (wordkind.Keyword keyword.If))
    ∷ (tokenkind.Word (wordkind.Keyword keyword.Return))
    ∷ (tokenkind.Word (wordkind.Keyword keyword.Switch))
    ∷ (tokenkind.Word (wordkind.Keyword keyword.Throw))
    ∷ (tokenkind.Word (wordkind.Keyword keyword.Try))
    ∷ (tokenkind.Word (wordkind.Keyword keyword.Var))
    ∷ (tokenkind.Word (wordkind.Keyword keyword.Let))
    ∷ (tokenkind.Word (wordkind.Keyword keyword.Const))
    ∷ (tokenkind.Word (wordkind.Keyword keyword.While))
    ∷ (tokenkind.Word (wordkind.Keyword keyword.With))
    ∷ (tokenkind.Word (wordkind.Keyword keyword.New))
    ∷ (tokenkind.Word (wordkind.Keyword keyword.This))
    ∷ (tokenkind.Word (wordkind.Keyword keyword.Super))
    ∷ (tokenkind.Word (wordkind.Keyword keyword.Class))
    ∷ (tokenkind.Word (wordkind.Keyword keyword.Extends))
    ∷ (tokenkind.Word (wordkind.Keyword keyword.Export))
    ∷ (tokenkind.Word (wordkind.Keyword keyword.Import))
    ∷ (tokenkind.Word (wordkind.Keyword keyword.Yield))
    ∷ (tokenkind.Word (wordkind.Keyword keyword.In))
    ∷ (tokenkind.Word (wordkind.Keyword keyword.InstanceOf))
    ∷ (tokenkind.Word (wordkind.Keyword keyword.TypeOf))
    ∷ (tokenkind.Word (wordkind.Keyword keyword.Void))
    ∷ (tokenkind.Word (wordkind.Keyword keyword.Delete))
    ∷ (tokenkind.Word wordkind.Null)
    ∷ (tokenkind.Word wordkind.True)
    ∷ (tokenkind.Word wordkind.False)
    ∷ (tokenkind.Word (wordkind.Ident identkind.Other))
    ∷ (tokenkind.Word (wordkind.Ident (identkind.Known knownident.Abstract)))
    ∷ (tokenkind.Word (wordkind.Ident (identkind.Known knownident.As)))
    ∷ (tokenkind.Word (wordkind.Ident (identkind.Known knownident.Async)))
    ∷ (tokenkind.Word (wordkind.Ident (identkind.Known knownident.From)))
    ∷ (tokenkind.Word (wordkind.Ident (identkind.Known knownident.Of)))
    ∷ (tokenkind.Word (wordkind.Ident (identkind.Known knownident.Type_)))
    ∷ (tokenkind.Word (wordkind.Ident (identkind.Known knownident.Global)))
    ∷ (tokenkind.Word (wordkind.Ident (identkind.Known knownident.Static)))
    ∷ (tokenkind.Word (wordkind.Ident (identkind.Known knownident.Using)))
    ∷ (tokenkind.Word (wordkind.Ident (identkind.Known knownident.Readonly)))
    ∷ (tokenkind.Word (wordkind.Ident (identkind.Known knownident.Unique)))
    ∷ (tokenkind.Word (wordkind.Ident (identkind.Known knownident.Keyof)))
    ∷ (tokenkind.Word (wordkind.Ident (identkind.Known knownident.Declare)))
    ∷ (tokenkind.Word (wordkind.Ident (identkind.Known knownident.Enum)))
    ∷ (tokenkind.Word (wordkind.Ident (identkind.Known knownident.Is)))
    ∷ (tokenkind.Word (wordkind.Ident (identkind.Known knownident.Infer)))
    ∷ (tokenkind.Word (wordkind.Ident (identkind.Known knownident.Symbol)))
    ∷ (tokenkind.Word (wordkind.Ident (identkind.Known knownident.Undefined)))
    ∷ (tokenkind.Word (wordkind.Ident (identkind.Known knownident.Interface)))
    ∷ (tokenkind.Word (wordkind.Ident (identkind.Known knownident.Implements)))
    ∷ (tokenkind.Word (wordkind.Ident (identkind.Known knownident.Asserts)))
    ∷ (tokenkind.Word (wordkind.Ident (identkind.Known knownident.Require)))
    ∷ (tokenkind.Word (wordkind.Ident (identkind.Known knownident.Get)))
    ∷ (tokenkind.Word (wordkind.Ident (identkind.Known knownident.Set)))
    ∷ (tokenkind.Word (wordkind.Ident (identkind.Known knownident.Any)))
    ∷ (tokenkind.Word (wordkind.Ident (identkind.Known knownident.Intrinsic)))
    ∷ (tokenkind.Word (wordkind.Ident (identkind.Known knownident.Unknown)))
    ∷ (tokenkind.Word (wordkind.Ident (identkind.Known knownident.String)))
    ∷ (tokenkind.Word (wordkind.Ident (identkind.Known knownident.Object)))
    ∷ (tokenkind.Word (wordkind.Ident (identkind.Known knownident.Number)))
    ∷ (tokenkind.Word (wordkind.Ident (identkind.Known knownident.Bigint)))
    ∷ (tokenkind.Word (wordkind.Ident (identkind.Known knownident.Boolean)))
    ∷ (tokenkind.Word (wordkind.Ident (identkind.Known knownident.Never)))
    ∷ (tokenkind.Word (wordkind.Ident (identkind.Known knownident.Assert)))
    ∷ (tokenkind.Word (wordkind.Ident (identkind.Known knownident.Namespace)))
    ∷ (tokenkind.Word (wordkind.Ident (identkind.Known knownident.Accessor)))
    ∷ (tokenkind.Word (wordkind.Ident (identkind.Known knownident.Meta)))
    ∷ (tokenkind.Word (wordkind.Ident (identkind.Known knownident.Target)))
    ∷ (tokenkind.Word (wordkind.Ident (identkind.Known knownident.Satisfies)))
    ∷ (tokenkind.Word (wordkind.Ident (identkind.Known knownident.Package)))
    ∷ (tokenkind.Word (wordkind.Ident (identkind.Known knownident.Protected)))
    ∷ (tokenkind.Word (wordkind.Ident (identkind.Known knownident.Private)))
    ∷ (tokenkind.Word (wordkind.Ident (identkind.Known knownident.Public)))
    ∷ (tokenkind.BinOp binoptoken.EqEq)
    ∷ (tokenkind.BinOp binoptoken.NotEq)
    ∷ (tokenkind.BinOp binoptoken.EqEqEq)
    ∷ (tokenkind.BinOp binoptoken.NotEqEq)
    ∷ (tokenkind.BinOp binoptoken.Lt)
    ∷ (tokenkind.BinOp binoptoken.LtEq)
    ∷ (tokenkind.BinOp binoptoken.Gt)
    ∷ (tokenkind.BinOp binoptoken.GtEq)
    ∷ (tokenkind.BinOp binoptoken.LShift)
    ∷ (tokenkind.BinOp binoptoken.RShift)
    ∷ (tokenkind.BinOp binoptoken.ZeroFillRShift)
    ∷ (tokenkind.BinOp binoptoken.Add)
    ∷ (tokenkind.BinOp binoptoken.Sub)
    ∷ (tokenkind.BinOp binoptoken.Mul)
    ∷ (tokenkind.BinOp binoptoken.Div)
    ∷ (tokenkind.BinOp binoptoken.Mod)
    ∷ (tokenkind.BinOp binoptoken.BitOr)
    ∷ (tokenkind.BinOp binoptoken.BitXor)
    ∷ (tokenkind.BinOp binoptoken.BitAnd)
    ∷ (tokenkind.BinOp binoptoken.Exp)
    ∷ (tokenkind.BinOp binoptoken.LogicalOr)
    ∷ (tokenkind.BinOp binoptoken.LogicalAnd)
    ∷ (tokenkind.BinOp binoptoken.NullishCoalescing)
    ∷ (tokenkind.AssignOp assignop.Assign)
    ∷ (tokenkind.AssignOp assignop.AddAssign)
    ∷ (tokenkind.AssignOp assignop.SubAssign)
    ∷ (tokenkind.AssignOp assignop.MulAssign)
    ∷ (tokenkind.AssignOp assignop.DivAssign)
    ∷ (tokenkind.AssignOp assignop.ModAssign)
    ∷ (tokenkind.AssignOp assignop.LShiftAssign)
    ∷ (tokenkind.AssignOp assignop.RShiftAssign)
    ∷ (tokenkind.AssignOp assignop.ZeroFillRShiftAssign)
    ∷ (tokenkind.AssignOp assignop.BitOrAssign)
    ∷ (tokenkind.AssignOp assignop.BitXorAssign)
    ∷ (tokenkind.AssignOp assignop.BitAndAssign)
    ∷ (tokenkind.AssignOp assignop.ExpAssign)
    ∷ (tokenkind.AssignOp assignop.AndAssign)
    ∷ (tokenkind.AssignOp assignop.OrAssign)
    ∷ (tokenkind.AssignOp assignop.NullishAssign)
    ∷ tokenkind.Arrow
    ∷ tokenkind.Hash
    ∷ tokenkind.At
    ∷ tokenkind.Dot
    ∷ tokenkind.DotDotDot
    ∷ tokenkind.Bang
    ∷ tokenkind.LParen
    ∷ tokenkind.RParen
    ∷ tokenkind.LBracket
    ∷ tokenkind.RBracket
    ∷ tokenkind.LBrace
    ∷ tokenkind.RBrace
    ∷ tokenkind.Semi
    ∷ tokenkind.Comma
    ∷ tokenkind.BackQuote
    ∷ tokenkind.Template
    ∷ tokenkind.Colon
    ∷ tokenkind.DollarLBrace
    ∷ tokenkind.QuestionMark
    ∷ tokenkind.PlusPlus
    ∷ tokenkind.MinusMinus
    ∷ tokenkind.Tilde
    ∷ tokenkind.Str
    ∷ tokenkind.Regex
    ∷ tokenkind.Num
    ∷ tokenkind.BigInt
    ∷ tokenkind.JSXName
    ∷ tokenkind.JSXText
    ∷ tokenkind.JSXTagStart
    ∷ tokenkind.JSXTagEnd
    ∷ tokenkind.Shebang
    ∷ tokenkind.Error
    ∷ []

-- the kind with a number
kind_at : ℕ → Option TokenKind
kind_at n = find (λ k. nat_eq (kind_number k) n) all_kinds

read_back : (k : TokenKind) → kind_at (kind_number k) ≡ Some k
unfolding kind_at all_kinds
read_back (tokenkind.Word (wordkind.Keyword keyword.Await)) = refl
read_back (tokenkind.Word (wordkind.Keyword keyword.Break)) = refl
read_back (tokenkind.Word (wordkind.Keyword keyword.Case)) = refl
read_back (tokenkind.Word (wordkind.Keyword keyword.Catch)) = refl
read_back (tokenkind.Word (wordkind.Keyword keyword.Continue)) = refl
read_back (tokenkind.Word (wordkind.Keyword keyword.Debugger)) = refl
read_back (tokenkind.Word (wordkind.Keyword keyword.Default_)) = refl
read_back (tokenkind.Word (wordkind.Keyword keyword.Do)) = refl
read_back (tokenkind.Word (wordkind.Keyword keyword.Else)) = refl
read_back (tokenkind.Word (wordkind.Keyword keyword.Finally)) = refl
read_back (tokenkind.Word (wordkind.Keyword keyword.For)) = refl
read_back (tokenkind.Word (wordkind.Keyword keyword.Function)) = refl
read_back (tokenkind.Word (wordkind.Keyword keyword.If)) = refl
read_back (tokenkind.Word (wordkind.Keyword keyword.Return)) = refl
read_back (tokenkind.Word (wordkind.Keyword keyword.Switch)) = refl
read_back (tokenkind.Word (wordkind.Keyword keyword.Throw)) = refl
read_back (tokenkind.Word (wordkind.Keyword keyword.Try)) = refl
read_back (tokenkind.Word (wordkind.Keyword keyword.Var)) = refl
read_back (tokenkind.Word (wordkind.Keyword keyword.Let)) = refl
read_back (tokenkind.Word (wordkind.Keyword keyword.Const)) = refl
read_back (tokenkind.Word (wordkind.Keyword keyword.While)) = refl
read_back (tokenkind.Word (wordkind.Keyword keyword.With)) = refl
read_back (tokenkind.Word (wordkind.Keyword keyword.New)) = refl
read_back (tokenkind.Word (wordkind.Keyword keyword.This)) = refl
read_back (tokenkind.Word (wordkind.Keyword keyword.Super)) = refl
read_back (tokenkind.Word (wordkind.Keyword keyword.Class)) = refl
read_back (tokenkind.Word (wordkind.Keyword keyword.Extends)) = refl
read_back (tokenkind.Word (wordkind.Keyword keyword.Export)) = refl
read_back (tokenkind.Word (wordkind.Keyword keyword.Import)) = refl
read_back (tokenkind.Word (wordkind.Keyword keyword.Yield)) = refl
read_back (tokenkind.Word (wordkind.Keyword keyword.In)) = refl
read_back (tokenkind.Word (wordkind.Keyword keyword.InstanceOf)) = refl
read_back (tokenkind.Word (wordkind.Keyword keyword.TypeOf)) = refl
read_back (tokenkind.Word (wordkind.Keyword keyword.Void)) = refl
read_back (tokenkind.Word (wordkind.Keyword keyword.Delete)) = refl
read_back (tokenkind.Word wordkind.Null) = refl
read_back (tokenkind.Word wordkind.True) = refl
read_back (tokenkind.Word wordkind.False) = refl
read_back (tokenkind.Word (wordkind.Ident identkind.Other)) = refl
read_back (tokenkind.Word (wordkind.Ident (identkind.Known knownident.Abstract))) = refl
read_back (tokenkind.Word (wordkind.Ident (identkind.Known knownident.As))) = refl
read_back (tokenkind.Word (wordkind.Ident (identkind.Known knownident.Async))) = refl
read_back (tokenkind.Word (wordkind.Ident (identkind.Known knownident.From))) = refl
read_back (tokenkind.Word (wordkind.Ident (identkind.Known knownident.Of))) = refl
read_back (tokenkind.Word (wordkind.Ident (identkind.Known knownident.Type_))) = refl
read_back (tokenkind.Word (wordkind.Ident (identkind.Known knownident.Global))) = refl
read_back (tokenkind.Word (wordkind.Ident (identkind.Known knownident.Static))) = refl
read_back (tokenkind.Word (wordkind.Ident (identkind.Known knownident.Using))) = refl
read_back (tokenkind.Word (wordkind.Ident (identkind.Known knownident.Readonly))) = refl
read_back (tokenkind.Word (wordkind.Ident (identkind.Known knownident.Unique))) = refl
read_back (tokenkind.Word (wordkind.Ident (identkind.Known knownident.Keyof))) = refl
read_back (tokenkind.Word (wordkind.Ident (identkind.Known knownident.Declare))) = refl
read_back (tokenkind.Word (wordkind.Ident (identkind.Known knownident.Enum))) = refl
read_back (tokenkind.Word (wordkind.Ident (identkind.Known knownident.Is))) = refl
read_back (tokenkind.Word (wordkind.Ident (identkind.Known knownident.Infer))) = refl
read_back (tokenkind.Word (wordkind.Ident (identkind.Known knownident.Symbol))) = refl
read_back (tokenkind.Word (wordkind.Ident (identkind.Known knownident.Undefined))) = refl
read_back (tokenkind.Word (wordkind.Ident (identkind.Known knownident.Interface))) = refl
read_back (tokenkind.Word (wordkind.Ident (identkind.Known knownident.Implements))) = refl
read_back (tokenkind.Word (wordkind.Ident (identkind.Known knownident.Asserts))) = refl
read_back (tokenkind.Word (wordkind.Ident (identkind.Known knownident.Require))) = refl
read_back (tokenkind.Word (wordkind.Ident (identkind.Known knownident.Get))) = refl
read_back (tokenkind.Word (wordkind.Ident (identkind.Known knownident.Set))) = refl
read_back (tokenkind.Word (wordkind.Ident (identkind.Known knownident.Any))) = refl
read_back (tokenkind.Word (wordkind.Ident (identkind.Known knownident.Intrinsic))) = refl
read_back (tokenkind.Word (wordkind.Ident (identkind.Known knownident.Unknown))) = refl
read_back (tokenkind.Word (wordkind.Ident (identkind.Known knownident.String))) = refl
read_back (tokenkind.Word (wordkind.Ident (identkind.Known knownident.Object))) = refl
read_back (tokenkind.Word (wordkind.Ident (identkind.Known knownident.Number))) = refl
read_back (tokenkind.Word (wordkind.Ident (identkind.Known knownident.Bigint))) = refl
read_back (tokenkind.Word (wordkind.Ident (identkind.Known knownident.Boolean))) = refl
read_back (tokenkind.Word (wordkind.Ident (identkind.Known knownident.Never))) = refl
read_back (tokenkind.Word (wordkind.Ident (identkind.Known knownident.Assert))) = refl
read_back (tokenkind.Word (wordkind.Ident (identkind.Known knownident.Namespace))) = refl
read_back (tokenkind.Word (wordkind.Ident (identkind.Known knownident.Accessor))) = refl
read_back (tokenkind.Word (wordkind.Ident (identkind.Known knownident.Meta))) = refl
read_back (tokenkind.Word (wordkind.Ident (identkind.Known knownident.Target))) = refl
read_back (tokenkind.Word (wordkind.Ident (identkind.Known knownident.Satisfies))) = refl
read_back (tokenkind.Word (wordkind.Ident (identkind.Known knownident.Package))) = refl
read_back (tokenkind.Word (wordkind.Ident (identkind.Known knownident.Protected))) = refl
read_back (tokenkind.Word (wordkind.Ident (identkind.Known knownident.Private))) = refl
read_back (tokenkind.Word (wordkind.Ident (identkind.Known knownident.Public))) = refl
read_back (tokenkind.BinOp binoptoken.EqEq) = refl
read_back (tokenkind.BinOp binoptoken.NotEq) = refl
read_back (tokenkind.BinOp binoptoken.EqEqEq) = refl
read_back (tokenkind.BinOp binoptoken.NotEqEq) = refl
read_back (tokenkind.BinOp binoptoken.Lt) = refl
read_back (tokenkind.BinOp binoptoken.LtEq) = refl
read_back (tokenkind.BinOp binoptoken.Gt) = refl
read_back (tokenkind.BinOp binoptoken.GtEq) = refl
read_back (tokenkind.BinOp binoptoken.LShift) = refl
read_back (tokenkind.BinOp binoptoken.RShift) = refl
read_back (tokenkind.BinOp binoptoken.ZeroFillRShift) = refl
read_back (tokenkind.BinOp binoptoken.Add) = refl
read_back (tokenkind.BinOp binoptoken.Sub) = refl
read_back (tokenkind.BinOp binoptoken.Mul) = refl
read_back (tokenkind.BinOp binoptoken.Div) = refl
read_back (tokenkind.BinOp binoptoken.Mod) = refl
read_back (tokenkind.BinOp binoptoken.BitOr) = refl
read_back (tokenkind.BinOp binoptoken.BitXor) = refl
read_back (tokenkind.BinOp binoptoken.BitAnd) = refl
read_back (tokenkind.BinOp binoptoken.Exp) = refl
read_back (tokenkind.BinOp binoptoken.LogicalOr) = refl
read_back (tokenkind.BinOp binoptoken.LogicalAnd) = refl
read_back (tokenkind.BinOp binoptoken.NullishCoalescing) = refl
read_back (tokenkind.AssignOp assignop.Assign) = refl
read_back (tokenkind.AssignOp assignop.AddAssign) = refl
read_back (tokenkind.AssignOp assignop.SubAssign) = refl
read_back (tokenkind.AssignOp assignop.MulAssign) = refl
read_back (tokenkind.AssignOp assignop.DivAssign) = refl
read_back (tokenkind.AssignOp assignop.ModAssign) = refl
read_back (tokenkind.AssignOp assignop.LShiftAssign) = refl
read_back (tokenkind.AssignOp assignop.RShiftAssign) = refl
read_back (tokenkind.AssignOp assignop.ZeroFillRShiftAssign) = refl
read_back (tokenkind.AssignOp assignop.BitOrAssign) = refl
read_back (tokenkind.AssignOp assignop.BitXorAssign) = refl
read_back (tokenkind.AssignOp assignop.BitAndAssign) = refl
read_back (tokenkind.AssignOp assignop.ExpAssign) = refl
read_back (tokenkind.AssignOp assignop.AndAssign) = refl
read_back (tokenkind.AssignOp assignop.OrAssign) = refl
read_back (tokenkind.AssignOp assignop.NullishAssign) = refl
read_back tokenkind.Arrow = refl
read_back tokenkind.Hash = refl
read_back tokenkind.At = refl
read_back tokenkind.Dot = refl
read_back tokenkind.DotDotDot = refl
read_back tokenkind.Bang = refl
read_back tokenkind.LParen = refl
read_back tokenkind.RParen = refl
read_back tokenkind.LBracket = refl
read_back tokenkind.RBracket = refl
read_back tokenkind.LBrace = refl
read_back tokenkind.RBrace = refl
read_back tokenkind.Semi = refl
read_back tokenkind.Comma = refl
read_back tokenkind.BackQuote = refl
read_back tokenkind.Template = refl
read_back tokenkind.Colon = refl
read_back tokenkind.DollarLBrace = refl
read_back tokenkind.QuestionMark = refl
read_back tokenkind.PlusPlus = refl
read_back tokenkind.MinusMinus = refl
read_back tokenkind.Tilde = refl
read_back tokenkind.Str = refl
read_back tokenkind.Regex = refl
read_back tokenkind.Num = refl
read_back tokenkind.BigInt = refl
read_back tokenkind.JSXName = refl
read_back tokenkind.JSXText = refl
read_back tokenkind.JSXTagStart = refl
read_back tokenkind.JSXTagEnd = refl
read_back tokenkind.Shebang = refl
read_back tokenkind.Error = refl

pub kinds_are_told_apart : KindsAreToldApart
kinds_are_told_apart a b e =
    let same : Some a ≡ Some b = sym (read_back a) ∙ (ap kind_at e ∙ read_back b) in cc
