-- The operators as they are written (ECMA-262, 12.8, Punctuators, and the keywords `in` and `instanceof`).
use Rattle.std.specs.Prelude.{ℕ, List, codes}
use Rattle.ecma_word.specs.declared.operator.BinOpToken.{BinOpToken}
use Rattle.ecma_word.specs.declared.operator.BinOpToken.TheVariants as bin
use Rattle.ecma_word.specs.declared.operator.BinaryOp.{BinaryOp}
use Rattle.ecma_word.specs.declared.operator.BinaryOp.TheVariants as binary
use Rattle.ecma_word.specs.declared.operator.AssignOp.{AssignOp}
use Rattle.ecma_word.specs.declared.operator.AssignOp.TheVariants as assign

abbrev pub bin_op_text : BinOpToken → List ℕ
bin_op_text bin.EqEq = codes "=="
bin_op_text bin.NotEq = codes "!="
bin_op_text bin.EqEqEq = codes "==="
bin_op_text bin.NotEqEq = codes "!=="
bin_op_text bin.Lt = codes "<"
bin_op_text bin.LtEq = codes "<="
bin_op_text bin.Gt = codes ">"
bin_op_text bin.GtEq = codes ">="
bin_op_text bin.LShift = codes "<<"
bin_op_text bin.RShift = codes ">>"
bin_op_text bin.ZeroFillRShift = codes ">>>"
bin_op_text bin.Add = codes "+"
bin_op_text bin.Sub = codes "-"
bin_op_text bin.Mul = codes "*"
bin_op_text bin.Div = codes "/"
bin_op_text bin.Mod = codes "%"
bin_op_text bin.BitOr = codes "|"
bin_op_text bin.BitXor = codes "^"
bin_op_text bin.BitAnd = codes "&"
bin_op_text bin.Exp = codes "**"
bin_op_text bin.LogicalOr = codes "||"
bin_op_text bin.LogicalAnd = codes "&&"
bin_op_text bin.NullishCoalescing = codes "??"

-- the operator of the same spelling
abbrev pub binary_op_of : BinOpToken → BinaryOp
binary_op_of bin.EqEq = binary.EqEq
binary_op_of bin.NotEq = binary.NotEq
binary_op_of bin.EqEqEq = binary.EqEqEq
binary_op_of bin.NotEqEq = binary.NotEqEq
binary_op_of bin.Lt = binary.Lt
binary_op_of bin.LtEq = binary.LtEq
binary_op_of bin.Gt = binary.Gt
binary_op_of bin.GtEq = binary.GtEq
binary_op_of bin.LShift = binary.LShift
binary_op_of bin.RShift = binary.RShift
binary_op_of bin.ZeroFillRShift = binary.ZeroFillRShift
binary_op_of bin.Add = binary.Add
binary_op_of bin.Sub = binary.Sub
binary_op_of bin.Mul = binary.Mul
binary_op_of bin.Div = binary.Div
binary_op_of bin.Mod = binary.Mod
binary_op_of bin.BitOr = binary.BitOr
binary_op_of bin.BitXor = binary.BitXor
binary_op_of bin.BitAnd = binary.BitAnd
binary_op_of bin.Exp = binary.Exp
binary_op_of bin.LogicalOr = binary.LogicalOr
binary_op_of bin.LogicalAnd = binary.LogicalAnd
binary_op_of bin.NullishCoalescing = binary.NullishCoalescing

abbrev pub binary_op_text : BinaryOp → List ℕ
binary_op_text binary.EqEq = codes "=="
binary_op_text binary.NotEq = codes "!="
binary_op_text binary.EqEqEq = codes "==="
binary_op_text binary.NotEqEq = codes "!=="
binary_op_text binary.Lt = codes "<"
binary_op_text binary.LtEq = codes "<="
binary_op_text binary.Gt = codes ">"
binary_op_text binary.GtEq = codes ">="
binary_op_text binary.LShift = codes "<<"
binary_op_text binary.RShift = codes ">>"
binary_op_text binary.ZeroFillRShift = codes ">>>"
binary_op_text binary.Add = codes "+"
binary_op_text binary.Sub = codes "-"
binary_op_text binary.Mul = codes "*"
binary_op_text binary.Div = codes "/"
binary_op_text binary.Mod = codes "%"
binary_op_text binary.BitOr = codes "|"
binary_op_text binary.BitXor = codes "^"
binary_op_text binary.BitAnd = codes "&"
binary_op_text binary.Exp = codes "**"
binary_op_text binary.LogicalOr = codes "||"
binary_op_text binary.LogicalAnd = codes "&&"
binary_op_text binary.NullishCoalescing = codes "??"
binary_op_text binary.In = codes "in"
binary_op_text binary.InstanceOf = codes "instanceof"

abbrev pub assign_op_text : AssignOp → List ℕ
assign_op_text assign.Assign = codes "="
assign_op_text assign.AddAssign = codes "+="
assign_op_text assign.SubAssign = codes "-="
assign_op_text assign.MulAssign = codes "*="
assign_op_text assign.DivAssign = codes "/="
assign_op_text assign.ModAssign = codes "%="
assign_op_text assign.LShiftAssign = codes "<<="
assign_op_text assign.RShiftAssign = codes ">>="
assign_op_text assign.ZeroFillRShiftAssign = codes ">>>="
assign_op_text assign.BitOrAssign = codes "|="
assign_op_text assign.BitXorAssign = codes "^="
assign_op_text assign.BitAndAssign = codes "&="
assign_op_text assign.ExpAssign = codes "**="
assign_op_text assign.AndAssign = codes "&&="
assign_op_text assign.OrAssign = codes "||="
assign_op_text assign.NullishAssign = codes "??="
