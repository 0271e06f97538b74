use Rattle.std.proofs.Common.{◌≡◌, ℕ, Option, map, take, All}
use Rattle.prism_syntax.specs.declared.models.Variable.{Variable}
use Rattle.typed_trees.specs.Numbers.{constant_value}
use Rattle.typecheck.specs.Limits.{IsWithin}
use Rattle.typecheck.specs.Parts.{made_variable}
use Rattle.typecheck.proofs.variables.made_variables.Given as goal

-- the variables so far are made, within the limits
abbrev pub invariant-loop-variable : goal.invariant-loop-variable
invariant-loop-variable l =
    (l.vars ≡ map (made_variable (constant_value l.consts)) (map {B = Option ℕ × Variable} (λ v. (v.0, v.1.now)) (take l.variable-index l.variables))) × All IsWithin l.vars
