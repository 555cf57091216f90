-- The kinds of tokens by their numbers.
use Rattle.std.specs.Prelude.{ℕ, ◌==◌, nat_lt, if◌then◌else◌}
use Rattle.ecma_word.specs.declared.keyword.Keyword.{Keyword}
use Rattle.ecma_word.specs.declared.keyword.Keyword.TheVariants as keyword
use Rattle.ecma_word.specs.declared.known_ident.KnownIdent.{KnownIdent}
use Rattle.ecma_word.specs.declared.known_ident.KnownIdent.TheVariants as knownident
use Rattle.ecma_word.specs.declared.operator.BinOpToken.{BinOpToken}
use Rattle.ecma_word.specs.declared.operator.BinOpToken.TheVariants as binoptoken
use Rattle.ecma_word.specs.declared.operator.AssignOp.{AssignOp}
use Rattle.ecma_word.specs.declared.operator.AssignOp.TheVariants as assignop
use Rattle.ecma_word.specs.declared.word.WordKind.{WordKind}
use Rattle.ecma_word.specs.declared.word.WordKind.TheVariants as wordkind
use Rattle.ecma_word.specs.declared.word.IdentKind.TheVariants as identkind
use Rattle.ecma_token.specs.declared.kind.TokenKind.{TokenKind}
use Rattle.ecma_token.specs.declared.kind.TokenKind.TheVariants as tokenkind

abbrev pub keyword_at : ℕ → Keyword
keyword_at n =
    if n == 128 then keyword.Await else
    if n == 129 then keyword.Break else
    if n == 130 then keyword.Case else
    if n == 131 then keyword.Catch else
    if n == 132 then keyword.Continue else
    if n == 133 then keyword.Debugger else
    if n == 134 then keyword.Default_ else
    if n == 135 then keyword.Do else
    if n == 136 then keyword.Else else
    if n == 137 then keyword.Finally else
    if n == 138 then keyword.For else
    if n == 139 then keyword.Function else
    if n == 140 then keyword.If else
    if n == 141 then keyword.Return else
    if n == 142 then keyword.Switch else
    if n == 143 then keyword.Throw else
    if n == 144 then keyword.Try else
    if n == 145 then keyword.Var else
    if n == 146 then keyword.Let else
    if n == 147 then keyword.Const else
    if n == 148 then keyword.While else
    if n == 149 then keyword.With else
    if n == 150 then keyword.New else
    if n == 151 then keyword.This else
    if n == 152 then keyword.Super else
    if n == 153 then keyword.Class else
    if n == 154 then keyword.Extends else
    if n == 155 then keyword.Export else
    if n == 156 then keyword.Import else
    if n == 157 then keyword.Yield else
    if n == 158 then keyword.In else
    if n == 159 then keyword.InstanceOf else
    if n == 160 then keyword.TypeOf else
    if n == 161 then keyword.Void else
    keyword.Delete

abbrev pub name_at : ℕ → KnownIdent
name_at n =
    if n == 256 then knownident.Abstract else
    if n == 257 then knownident.As else
    if n == 258 then knownident.Async else
    if n == 259 then knownident.From else
    if n == 260 then knownident.Of else
    if n == 261 then knownident.Type_ else
    if n == 262 then knownident.Global else
    if n == 263 then knownident.Static else
    if n == 264 then knownident.Using else
    if n == 265 then knownident.Readonly else
    if n == 266 then knownident.Unique else
    if n == 267 then knownident.Keyof else
    if n == 268 then knownident.Declare else
    if n == 269 then knownident.Enum else
    if n == 270 then knownident.Is else
    if n == 271 then knownident.Infer else
    if n == 272 then knownident.Symbol else
    if n == 273 then knownident.Undefined else
    if n == 274 then knownident.Interface else
    if n == 275 then knownident.Implements else
    if n == 276 then knownident.Asserts else
    if n == 277 then knownident.Require else
    if n == 278 then knownident.Get else
    if n == 279 then knownident.Set else
    if n == 280 then knownident.Any else
    if n == 281 then knownident.Intrinsic else
    if n == 282 then knownident.Unknown else
    if n == 283 then knownident.String else
    if n == 284 then knownident.Object else
    if n == 285 then knownident.Number else
    if n == 286 then knownident.Bigint else
    if n == 287 then knownident.Boolean else
    if n == 288 then knownident.Never else
    if n == 289 then knownident.Assert else
    if n == 290 then knownident.Namespace else
    if n == 291 then knownident.Accessor else
    if n == 292 then knownident.Meta else
    if n == 293 then knownident.Target else
    if n == 294 then knownident.Satisfies else
    if n == 295 then knownident.Package else
    if n == 296 then knownident.Protected else
    if n == 297 then knownident.Private else
    knownident.Public

abbrev pub operator_at : ℕ → BinOpToken
operator_at n =
    if n == 64 then binoptoken.EqEq else
    if n == 65 then binoptoken.NotEq else
    if n == 66 then binoptoken.EqEqEq else
    if n == 67 then binoptoken.NotEqEq else
    if n == 68 then binoptoken.Lt else
    if n == 69 then binoptoken.LtEq else
    if n == 70 then binoptoken.Gt else
    if n == 71 then binoptoken.GtEq else
    if n == 72 then binoptoken.LShift else
    if n == 73 then binoptoken.RShift else
    if n == 74 then binoptoken.ZeroFillRShift else
    if n == 75 then binoptoken.Add else
    if n == 76 then binoptoken.Sub else
    if n == 77 then binoptoken.Mul else
    if n == 78 then binoptoken.Div else
    if n == 79 then binoptoken.Mod else
    if n == 80 then binoptoken.BitOr else
    if n == 81 then binoptoken.BitXor else
    if n == 82 then binoptoken.BitAnd else
    if n == 83 then binoptoken.Exp else
    if n == 84 then binoptoken.LogicalOr else
    if n == 85 then binoptoken.LogicalAnd else
    binoptoken.NullishCoalescing

abbrev pub assignment_at : ℕ → AssignOp
assignment_at n =
    if n == 96 then assignop.Assign else
    if n == 97 then assignop.AddAssign else
    if n == 98 then assignop.SubAssign else
    if n == 99 then assignop.MulAssign else
    if n == 100 then assignop.DivAssign else
    if n == 101 then assignop.ModAssign else
    if n == 102 then assignop.LShiftAssign else
    if n == 103 then assignop.RShiftAssign else
    if n == 104 then assignop.ZeroFillRShiftAssign else
    if n == 105 then assignop.BitOrAssign else
    if n == 106 then assignop.BitXorAssign else
    if n == 107 then assignop.BitAndAssign else
    if n == 108 then assignop.ExpAssign else
    if n == 109 then assignop.AndAssign else
    if n == 110 then assignop.OrAssign else
    assignop.NullishAssign

abbrev pub plain_at : ℕ → TokenKind
plain_at n =
    if n == 0 then tokenkind.Arrow else
    if n == 1 then tokenkind.Hash else
    if n == 2 then tokenkind.At else
    if n == 3 then tokenkind.Dot else
    if n == 4 then tokenkind.DotDotDot else
    if n == 5 then tokenkind.Bang else
    if n == 6 then tokenkind.LParen else
    if n == 7 then tokenkind.RParen else
    if n == 8 then tokenkind.LBracket else
    if n == 9 then tokenkind.RBracket else
    if n == 10 then tokenkind.LBrace else
    if n == 11 then tokenkind.RBrace else
    if n == 12 then tokenkind.Semi else
    if n == 13 then tokenkind.Comma else
    if n == 14 then tokenkind.BackQuote else
    if n == 15 then tokenkind.Template else
    if n == 16 then tokenkind.Colon else
    if n == 17 then tokenkind.DollarLBrace else
    if n == 18 then tokenkind.QuestionMark else
    if n == 19 then tokenkind.PlusPlus else
    if n == 20 then tokenkind.MinusMinus else
    if n == 21 then tokenkind.Tilde else
    if n == 22 then tokenkind.Str else
    if n == 23 then tokenkind.Regex else
    if n == 24 then tokenkind.Num else
    if n == 25 then tokenkind.BigInt else
    if n == 26 then tokenkind.JSXName else
    if n == 27 then tokenkind.JSXText else
    if n == 28 then tokenkind.JSXTagStart else
    if n == 29 then tokenkind.JSXTagEnd else
    if n == 30 then tokenkind.Shebang else
    tokenkind.Error

abbrev pub word_at : ℕ → WordKind
word_at n =
    if n == 192 then wordkind.Null else
    if n == 193 then wordkind.True else
    if n == 194 then wordkind.False else
    if n == 195 then wordkind.Ident identkind.Other else
    if nat_lt n 192 then wordkind.Keyword (keyword_at n) else
    wordkind.Ident (identkind.Known (name_at n))

abbrev pub kind_at : ℕ → TokenKind
kind_at n =
    if nat_lt n 64 then plain_at n else
    if nat_lt n 96 then tokenkind.BinOp (operator_at n) else
    if nat_lt n 128 then tokenkind.AssignOp (assignment_at n) else
    tokenkind.Word (word_at n)
