-- The token of each operator and of each function.
use Rattle.std.specs.Prelude.{List, ℕ, codes}
use Rattle.prism_syntax.specs.declared.tokens.Kind.{Kind}
use Rattle.prism_syntax.specs.declared.tokens.Kind.TheVariants as k
use Rattle.prism_syntax.specs.declared.expressions.Func.{Func}
use Rattle.prism_syntax.specs.declared.expressions.Func.TheVariants as f
use Rattle.prism_syntax.specs.declared.expressions.Op.{Op}
use Rattle.prism_syntax.specs.declared.expressions.Op.TheVariants as o
use Rattle.prism_syntax.specs.declared.precedence.Precedence.{Precedence}
use Rattle.prism_syntax.specs.declared.precedence.Precedence.TheVariants as rule

-- the token of an operator
abbrev pub operator_token : Op → Kind
operator_token o.Imp = k.Implies
operator_token o.Iff = k.Equivalent
operator_token o.Or = k.Bar
operator_token o.And = k.Ampersand
operator_token o.Eq = k.Equal
operator_token o.Ne = k.NotEqual
operator_token o.Lt = k.Less
operator_token o.Le = k.LessEqual
operator_token o.Gt = k.Greater
operator_token o.Ge = k.GreaterEqual
operator_token o.Add = k.Plus
operator_token o.Sub = k.Dash
operator_token o.Mul = k.Star
operator_token o.Div = k.Slash

-- the level that has an operator
abbrev pub operator_level : Op → Precedence
operator_level o.Imp = rule.Implication
operator_level o.Iff = rule.Equivalence
operator_level o.Or = rule.Disjunction
operator_level o.And = rule.Conjunction
operator_level o.Eq = rule.Equality
operator_level o.Ne = rule.Equality
operator_level o.Lt = rule.Relation
operator_level o.Le = rule.Relation
operator_level o.Gt = rule.Relation
operator_level o.Ge = rule.Relation
operator_level o.Add = rule.Sum
operator_level o.Sub = rule.Sum
operator_level o.Mul = rule.Product
operator_level o.Div = rule.Product

-- the bytes of a function
abbrev pub function_spelling : Func → List ℕ
function_spelling f.Min = codes "min"
function_spelling f.Max = codes "max"
function_spelling f.Floor = codes "floor"
function_spelling f.Ceil = codes "ceil"
function_spelling f.Pow = codes "pow"
function_spelling f.Mod = codes "mod"

-- the token of a function: a reserved word, or a name
abbrev pub function_token : Func → Kind
function_token f.Min = k.Min
function_token f.Max = k.Max
function_token g = k.Name (function_spelling g)
