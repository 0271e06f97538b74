use Rattle.std.proofs.Common.{◌≡◌, ◌++◌, map, take, ℕ, Option}
use Rattle.prism_syntax.specs.declared.models.Variable.{Variable}
use Rattle.typecheck.proofs.listing.list_variables.Given as goal

-- those so far are appended
abbrev pub invariant-loop-variable : goal.invariant-loop-variable
invariant-loop-variable l =
    map {B = Option ℕ × Variable} (λ v. (v.0, v.1.now)) l.list.items ≡ map {B = Option ℕ × Variable} (λ v. (v.0, v.1.now)) l.initial.list.items ++ map {B = Option ℕ × Variable} (λ v. (l.owner, v)) (take l.variable-index l.variables)
