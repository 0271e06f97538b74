use Rattle.std.proofs.Common.{◌≡◌, ◌++◌, map, take, ℕ, Option}
use Rattle.std.specs.Prelude.{Some, flat_map}
use Rattle.std.specs.List.{enumerate_from}
use Rattle.typecheck.specs.Declarations.{variables_of}
use Rattle.prism_syntax.specs.declared.models.Variable.{Variable}
use Rattle.typecheck.proofs.listing.list_module_variables.Given as goal

-- those of the modules so far are appended
abbrev pub invariant-loop-number : goal.invariant-loop-number
invariant-loop-number l =
    map {B = Option ℕ × Variable} (λ v. (v.0, v.1.now)) l.list.items
    ≡ map {B = Option ℕ × Variable} (λ v. (v.0, v.1.now)) l.initial.list.items ++ flat_map (λ m. map {B = Option ℕ × Variable} (λ v. (Some m.0, v)) (variables_of m.1)) (enumerate_from 0 (take l.number l.modules))
