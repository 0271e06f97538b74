-- The levels of the grammar of expressions, as tables: which level is written inside which, and which token stands for what.
use Rattle.std.specs.Prelude.{ℕ, ◌==◌, nat_le, List, codes, bytes_eq, Bool, true, false, if◌then◌else◌, Option, Some, None}
use Rattle.prism_syntax.specs.declared.labels.Labels.{Labels}
use Rattle.prism_syntax.specs.declared.labels.Labels.TheVariants.{Allowed}
use Rattle.prism_syntax.specs.declared.tokens.Kind.{Kind}
use Rattle.prism_syntax.specs.declared.tokens.Kind.TheVariants as k
use Rattle.prism_syntax.specs.declared.expressions.Expr.{Expr}
use Rattle.prism_syntax.specs.declared.expressions.Expr.TheVariants as e
use Rattle.prism_syntax.specs.declared.expressions.Func.{Func}
use Rattle.prism_syntax.specs.declared.expressions.Func.TheVariants as f
use Rattle.prism_syntax.specs.declared.expressions.Op.{Op}
use Rattle.prism_syntax.specs.declared.expressions.Op.TheVariants as o
use Rattle.prism_syntax.specs.declared.precedence.Precedence.{Precedence}
use Rattle.prism_syntax.specs.declared.precedence.Precedence.TheVariants as rule

-- the level of which a level's operands are; nothing stands below a primary
abbrev pub inner : Precedence → Precedence
inner rule.Conditional = rule.Implication
inner rule.Implication = rule.Equivalence
inner rule.Equivalence = rule.Disjunction
inner rule.Disjunction = rule.Conjunction
inner rule.Conjunction = rule.Negation
inner rule.Negation = rule.Equality
inner rule.Equality = rule.Relation
inner rule.Relation = rule.Sum
inner rule.Sum = rule.Product
inner rule.Product = rule.Unary
inner rule.Unary = rule.Primary
inner rule.Primary = rule.Primary

-- a level of operands with operators between them
abbrev pub is_chain : Precedence → Bool
is_chain rule.Conditional = false
is_chain rule.Negation = false
is_chain rule.Unary = false
is_chain rule.Primary = false
is_chain _ = true

-- a level of one operand with signs before it
abbrev pub is_prefix : Precedence → Bool
is_prefix rule.Negation = true
is_prefix rule.Unary = true
is_prefix _ = false

-- the operator that a token stands for between the operands of a level
abbrev pub operator : Precedence → Kind → Option Op
operator rule.Implication k.Implies = Some o.Imp
operator rule.Equivalence k.Equivalent = Some o.Iff
operator rule.Disjunction k.Bar = Some o.Or
operator rule.Conjunction k.Ampersand = Some o.And
operator rule.Equality k.Equal = Some o.Eq
operator rule.Equality k.NotEqual = Some o.Ne
operator rule.Relation k.Less = Some o.Lt
operator rule.Relation k.LessEqual = Some o.Le
operator rule.Relation k.Greater = Some o.Gt
operator rule.Relation k.GreaterEqual = Some o.Ge
operator rule.Sum k.Plus = Some o.Add
operator rule.Sum k.Dash = Some o.Sub
operator rule.Product k.Star = Some o.Mul
operator rule.Product k.Slash = Some o.Div
operator _ _ = None

-- a token is the sign of a level
abbrev pub is_sign : Precedence → Kind → Bool
is_sign rule.Negation k.Bang = true
is_sign rule.Unary k.Dash = true
is_sign _ _ = false

-- what the sign of a level makes of its operand
abbrev pub signed : Precedence → Expr → Expr
signed rule.Negation x = e.Not x
signed _ x = e.Minus x

-- the expression that a token is by itself; a quoted name is one only where labels are allowed
abbrev pub atom : Labels → Kind → Option Expr
atom labels (k.Whole value) = Some (e.Whole value)
atom labels (k.Real value) = Some (e.Real value)
atom labels k.True = Some (e.Truth true)
atom labels k.False = Some (e.Truth false)
atom labels (k.Name text) = Some (e.Name text)
atom Allowed (k.Quoted text) = Some (e.Quoted text)
atom _ _ = None

-- the function that a name is where `(` follows it
abbrev pub named_function : List ℕ → Option Func
named_function text =
    if bytes_eq text (codes "floor") then Some f.Floor
    else (if bytes_eq text (codes "ceil") then Some f.Ceil
    else (if bytes_eq text (codes "pow") then Some f.Pow
    else (if bytes_eq text (codes "mod") then Some f.Mod else None)))

-- the function that a token is where `(` follows it
abbrev pub function : Kind → Option Func
function k.Min = Some f.Min
function k.Max = Some f.Max
function (k.Name text) = named_function text
function _ = None

-- a function takes this many parts after its first
abbrev pub takes : Func → ℕ → Bool
takes f.Min more = nat_le 1 more
takes f.Max more = nat_le 1 more
takes f.Floor more = more == 0
takes f.Ceil more = more == 0
takes f.Pow more = more == 1
takes f.Mod more = more == 1
