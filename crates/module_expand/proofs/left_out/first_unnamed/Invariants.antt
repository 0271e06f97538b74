use Rattle.std.proofs.Common.{◌≡◌, ◌<◌, ℕ, List, map, bytes_eq}
use Rattle.std.specs.Prelude.{None, Some, slice_get}
use Rattle.std.specs.Option.{option_copied}
use Rattle.indexmap.specs.IndexMap.{get}
use Rattle.module_expand.specs.Renamed.{right_of}
use Rattle.module_expand.proofs.left_out.first_unnamed.Given as goal

-- each variable so far has a pair
abbrev pub invariant-loop-variable : goal.invariant-loop-variable
invariant-loop-variable l = (pairs : List (List ℕ × List ℕ))
    → ((name : List ℕ) → option_copied (get bytes_eq l.names name) ≡ right_of pairs name)
    → (j : ℕ) (n : List ℕ) → j < l.variable → slice_get (map (λ v. v.name) l.variables) j ≡ Some n
    → right_of pairs n ≡ None → ⊥
