-- Kinds of tokens as numbers.
use Rattle.std.specs.Prelude.{ℕ, ◌≡◌}
use Rattle.ecma_word.specs.declared.keyword.Keyword.{Keyword}
use Rattle.ecma_word.specs.declared.keyword.Keyword.TheVariants as keyword
use Rattle.ecma_word.specs.declared.known_ident.KnownIdent.{KnownIdent}
use Rattle.ecma_word.specs.declared.known_ident.KnownIdent.TheVariants as knownident
use Rattle.ecma_word.specs.declared.operator.BinOpToken.{BinOpToken}
use Rattle.ecma_word.specs.declared.operator.BinOpToken.TheVariants as binoptoken
use Rattle.ecma_word.specs.declared.operator.AssignOp.{AssignOp}
use Rattle.ecma_word.specs.declared.operator.AssignOp.TheVariants as assignop
use Rattle.ecma_word.specs.declared.word.WordKind.{WordKind}
use Rattle.ecma_word.specs.declared.word.WordKind.TheVariants as wordkind
use Rattle.ecma_word.specs.declared.word.IdentKind.TheVariants as identkind
use Rattle.ecma_token_kind.specs.declared.kind.TokenKind.{TokenKind}
use Rattle.ecma_token_kind.specs.declared.kind.TokenKind.TheVariants as tokenkind

abbrev pub keyword_number : Keyword → ℕ
keyword_number keyword.Await = 128
keyword_number keyword.Break = 129
keyword_number keyword.Case = 130
keyword_number keyword.Catch = 131
keyword_number keyword.Continue = 132
keyword_number keyword.Debugger = 133
keyword_number keyword.Default_ = 134
keyword_number keyword.Do = 135
keyword_number keyword.Else = 136
keyword_number keyword.Finally = 137
keyword_number keyword.For = 138
keyword_number keyword.Function = 139
keyword_number keyword.If = 140
keyword_number keyword.Return = 141
keyword_number keyword.Switch = 142
keyword_number keyword.Throw = 143
keyword_number keyword.Try = 144
keyword_number keyword.Var = 145
keyword_number keyword.Let = 146
keyword_number keyword.Const = 147
keyword_number keyword.While = 148
keyword_number keyword.With = 149
keyword_number keyword.New = 150
keyword_number keyword.This = 151
keyword_number keyword.Super = 152
keyword_number keyword.Class = 153
keyword_number keyword.Extends = 154
keyword_number keyword.Export = 155
keyword_number keyword.Import = 156
keyword_number keyword.Yield = 157
keyword_number keyword.In = 158
keyword_number keyword.InstanceOf = 159
keyword_number keyword.TypeOf = 160
keyword_number keyword.Void = 161
keyword_number keyword.Delete = 162

abbrev pub name_number : KnownIdent → ℕ
name_number knownident.Abstract = 256
name_number knownident.As = 257
name_number knownident.Async = 258
name_number knownident.From = 259
name_number knownident.Of = 260
name_number knownident.Type_ = 261
name_number knownident.Global = 262
name_number knownident.Static = 263
name_number knownident.Using = 264
name_number knownident.Readonly = 265
name_number knownident.Unique = 266
name_number knownident.Keyof = 267
name_number knownident.Declare = 268
name_number knownident.Enum = 269
name_number knownident.Is = 270
name_number knownident.Infer = 271
name_number knownident.Symbol = 272
name_number knownident.Undefined = 273
name_number knownident.Interface = 274
name_number knownident.Implements = 275
name_number knownident.Asserts = 276
name_number knownident.Require = 277
name_number knownident.Get = 278
name_number knownident.Set = 279
name_number knownident.Any = 280
name_number knownident.Intrinsic = 281
name_number knownident.Unknown = 282
name_number knownident.String = 283
name_number knownident.Object = 284
name_number knownident.Number = 285
name_number knownident.Bigint = 286
name_number knownident.Boolean = 287
name_number knownident.Never = 288
name_number knownident.Assert = 289
name_number knownident.Namespace = 290
name_number knownident.Accessor = 291
name_number knownident.Meta = 292
name_number knownident.Target = 293
name_number knownident.Satisfies = 294
name_number knownident.Package = 295
name_number knownident.Protected = 296
name_number knownident.Private = 297
name_number knownident.Public = 298

abbrev pub operator_number : BinOpToken → ℕ
operator_number binoptoken.EqEq = 64
operator_number binoptoken.NotEq = 65
operator_number binoptoken.EqEqEq = 66
operator_number binoptoken.NotEqEq = 67
operator_number binoptoken.Lt = 68
operator_number binoptoken.LtEq = 69
operator_number binoptoken.Gt = 70
operator_number binoptoken.GtEq = 71
operator_number binoptoken.LShift = 72
operator_number binoptoken.RShift = 73
operator_number binoptoken.ZeroFillRShift = 74
operator_number binoptoken.Add = 75
operator_number binoptoken.Sub = 76
operator_number binoptoken.Mul = 77
operator_number binoptoken.Div = 78
operator_number binoptoken.Mod = 79
operator_number binoptoken.BitOr = 80
operator_number binoptoken.BitXor = 81
operator_number binoptoken.BitAnd = 82
operator_number binoptoken.Exp = 83
operator_number binoptoken.LogicalOr = 84
operator_number binoptoken.LogicalAnd = 85
operator_number binoptoken.NullishCoalescing = 86

abbrev pub assignment_number : AssignOp → ℕ
assignment_number assignop.Assign = 96
assignment_number assignop.AddAssign = 97
assignment_number assignop.SubAssign = 98
assignment_number assignop.MulAssign = 99
assignment_number assignop.DivAssign = 100
assignment_number assignop.ModAssign = 101
assignment_number assignop.LShiftAssign = 102
assignment_number assignop.RShiftAssign = 103
assignment_number assignop.ZeroFillRShiftAssign = 104
assignment_number assignop.BitOrAssign = 105
assignment_number assignop.BitXorAssign = 106
assignment_number assignop.BitAndAssign = 107
assignment_number assignop.ExpAssign = 108
assignment_number assignop.AndAssign = 109
assignment_number assignop.OrAssign = 110
assignment_number assignop.NullishAssign = 111

abbrev pub word_number : WordKind → ℕ
word_number (wordkind.Keyword keyword) = keyword_number keyword
word_number wordkind.Null = 192
word_number wordkind.True = 193
word_number wordkind.False = 194
word_number (wordkind.Ident identkind.Other) = 195
word_number (wordkind.Ident (identkind.Known name)) = name_number name

abbrev pub kind_number : TokenKind → ℕ
kind_number (tokenkind.Word word) = word_number word
kind_number (tokenkind.BinOp op) = operator_number op
kind_number (tokenkind.AssignOp op) = assignment_number op
kind_number tokenkind.Arrow = 0
kind_number tokenkind.Hash = 1
kind_number tokenkind.At = 2
kind_number tokenkind.Dot = 3
kind_number tokenkind.DotDotDot = 4
kind_number tokenkind.Bang = 5
kind_number tokenkind.LParen = 6
kind_number tokenkind.RParen = 7
kind_number tokenkind.LBracket = 8
kind_number tokenkind.RBracket = 9
kind_number tokenkind.LBrace = 10
kind_number tokenkind.RBrace = 11
kind_number tokenkind.Semi = 12
kind_number tokenkind.Comma = 13
kind_number tokenkind.BackQuote = 14
kind_number tokenkind.Template = 15
kind_number tokenkind.Colon = 16
kind_number tokenkind.DollarLBrace = 17
kind_number tokenkind.QuestionMark = 18
kind_number tokenkind.PlusPlus = 19
kind_number tokenkind.MinusMinus = 20
kind_number tokenkind.Tilde = 21
kind_number tokenkind.Str = 22
kind_number tokenkind.Regex = 23
kind_number tokenkind.Num = 24
kind_number tokenkind.BigInt = 25
kind_number tokenkind.JSXName = 26
kind_number tokenkind.JSXText = 27
kind_number tokenkind.JSXTagStart = 28
kind_number tokenkind.JSXTagEnd = 29
kind_number tokenkind.Shebang = 30
kind_number tokenkind.Error = 31

-- Laws

-- Different kinds have different numbers.
abbrev pub KindsAreToldApart : Type 0
KindsAreToldApart = (a b : TokenKind) → kind_number a ≡ kind_number b → a ≡ b
