-- Operators, functions and sorts as they are written, and as the tables of forms have them.
use Rattle.prism_syntax.specs.declared.expressions.Op.{Op as WrittenOp}
use Rattle.prism_syntax.specs.declared.expressions.Op.TheVariants as o
use Rattle.prism_syntax.specs.declared.expressions.Func.{Func as WrittenFunc}
use Rattle.prism_syntax.specs.declared.expressions.Func.TheVariants as f
use Rattle.prism_syntax.specs.declared.models.SortWord.{SortWord}
use Rattle.prism_syntax.specs.declared.models.SortWord.TheVariants as word
use Rattle.chain_model.specs.declared.expressions.Op.{Op}
use Rattle.chain_model.specs.declared.expressions.Op.TheVariants as op
use Rattle.chain_model.specs.declared.expressions.Func.{Func}
use Rattle.chain_model.specs.declared.expressions.Func.TheVariants as func
use Rattle.chain_model.specs.declared.values.Sort.{Sort}
use Rattle.chain_model.specs.declared.values.Sort.TheVariants as sort

-- the operator that is written
abbrev pub op_of : WrittenOp → Op
op_of o.Imp = op.Imp
op_of o.Iff = op.Iff
op_of o.Or = op.Or
op_of o.And = op.And
op_of o.Eq = op.Eq
op_of o.Ne = op.Ne
op_of o.Lt = op.Lt
op_of o.Le = op.Le
op_of o.Gt = op.Gt
op_of o.Ge = op.Ge
op_of o.Add = op.Add
op_of o.Sub = op.Sub
op_of o.Mul = op.Mul
op_of o.Div = op.Div

-- the function that is written
abbrev pub func_of : WrittenFunc → Func
func_of f.Min = func.Min
func_of f.Max = func.Max
func_of f.Floor = func.Floor
func_of f.Ceil = func.Ceil
func_of f.Pow = func.Pow
func_of f.Mod = func.Mod

-- the sort that a constant is declared with
abbrev pub sort_of_word : SortWord → Sort
sort_of_word word.Int = sort.Int
sort_of_word word.Double = sort.Double
sort_of_word word.Bool = sort.Bool
