-- The expressions of a flat text, and whether they are too many or nested too deep.
use Rattle.std.specs.Prelude.{◌<◌, ◌⊎◌, List, ◌∷◌, [], ◌++◌, map, sum}
use Rattle.std.specs.Option.{option_to_list}
use Rattle.std.specs.List.{flat_map}
use Rattle.prism_syntax.specs.declared.expressions.Expr.{Expr}
use Rattle.prism_syntax.specs.declared.commands.Branch.{Branch}
use Rattle.prism_syntax.specs.declared.commands.Command.{Command}
use Rattle.prism_syntax.specs.declared.models.ConstText.{ConstText}
use Rattle.prism_syntax.specs.declared.models.Named.{Named}
use Rattle.prism_syntax.specs.declared.models.Variable.{Variable}
use Rattle.prism_syntax.specs.declared.models.Module.{Module}
use Rattle.prism_syntax.specs.declared.models.FlatText.{FlatText}
use Rattle.prism_syntax.specs.NodeCount.{node_count}
use Rattle.prism_syntax.specs.ParenDepth.{paren_depth, deepest}
use Rattle.module_expand.specs.Renamed.{variables_of, commands_of}

-- the value of a constant, where it has one
abbrev pub const_exprs : ConstText → List Expr
const_exprs c = option_to_list c.value

-- the ends of a variable's range and its initial value, as far as they are there
abbrev pub variable_exprs : Variable → List Expr
variable_exprs v = flat_map (λ r. r.0 ∷ (r.1 ∷ [])) (option_to_list v.range) ++ option_to_list v.init

-- the weight of a branch, where it has one, and the assigned values
abbrev pub branch_exprs : Branch → List Expr
branch_exprs b = option_to_list b.weight ++ map (λ s. s.1) b.sets

-- the guard of a command and the expressions of its branches
abbrev pub command_exprs : Command → List Expr
command_exprs c = c.guard ∷ flat_map branch_exprs c.branches

-- the expressions of a module's variables and then those of its commands
abbrev pub module_exprs : Module → List Expr
module_exprs m = flat_map variable_exprs (variables_of m) ++ flat_map command_exprs (commands_of m)

-- the bodies of formulas or labels
abbrev pub bodies : List Named → List Expr
bodies all = map (λ f. f.body) all

-- all expressions of a flat text in text order
abbrev pub exprs_of : FlatText → List Expr
exprs_of flat = flat_map const_exprs flat.consts ++ (flat_map variable_exprs flat.globals
    ++ (bodies flat.formulas ++ (flat_map module_exprs flat.modules ++ bodies flat.labels)))

-- these expressions have together more than 65,536 nodes, or one has more than 64 pairs of parentheses one within
-- another
abbrev pub AreTooLarge : List Expr → Type 0
AreTooLarge exprs = (65536 < sum (map node_count exprs)) ⊎ (64 < deepest (map paren_depth exprs))

-- a flat text is past the limits
abbrev pub IsTooLarge : FlatText → Type 0
IsTooLarge flat = AreTooLarge (exprs_of flat)
