-- The first variable that is left out, as it is looked for: by its module's place, its own place there, and its name.
use Rattle.std.specs.Prelude.{◌≡◌, ◌⊎◌, ℕ, List, Option, None, Some, MatchOption, slice_get, map}
use Rattle.prism_syntax.specs.declared.models.Variable.{Variable}
use Rattle.prism_syntax.specs.declared.models.Module.{Module}
use Rattle.prism_names.specs.First.{Name}
use Rattle.module_expand.specs.Renamed.{right_of}
use Rattle.module_expand.specs.Refusals.{IsLeftOut, LeavesOut, IsNotAfter}

-- the first in text order of the variables of which something holds, or none where it holds of none
abbrev pub IsFirstWhere : (ℕ → ℕ → Name → Type 0) → Option (ℕ × ℕ × Name) → Type 0
IsFirstWhere holds found = MatchOption found ((i j : ℕ) (name : Name) → holds i j name → ⊥)
    (λ v. holds v.0 v.1 v.2 × ((i j : ℕ) (name : Name) → holds i j name → IsNotAfter v.0 v.1 i j))

-- the first variable that any renaming leaves out
abbrev pub IsFirstOfAll : List Module → Option (ℕ × ℕ × Name) → Type 0
IsFirstOfAll modules found = IsFirstWhere (IsLeftOut modules) found

-- the first variable that this renaming leaves out
abbrev pub IsFirstOf : List Module → Module → Option (ℕ × ℕ × Name) → Type 0
IsFirstOf modules d found = IsFirstWhere (LeavesOut modules d) found

-- one of the variables of the module at this place has no pair
abbrev pub HasNoPair : List Variable → List (Name × Name) → ℕ → ℕ → ℕ → Name → Type 0
HasNoPair variables pairs place i j name = (place ≡ i) × (slice_get (map (λ v. v.name) variables) j ≡ Some name)
    × (right_of pairs name ≡ None)

-- the first of the variables of the module at this place that has no pair
abbrev pub IsFirstVariable : List Variable → List (Name × Name) → ℕ → Option (ℕ × ℕ × Name) → Type 0
IsFirstVariable variables pairs place found = IsFirstWhere (HasNoPair variables pairs place) found

-- the earlier of two variables, as far as they are there
abbrev pub IsEarlier : Option (ℕ × ℕ × Name) → Option (ℕ × ℕ × Name) → Option (ℕ × ℕ × Name) → Type 0
IsEarlier a b found = MatchOption a (found ≡ b) (λ x. MatchOption b (found ≡ a)
    (λ y. ((found ≡ a) × IsNotAfter x.0 x.1 y.0 y.1) ⊎ ((found ≡ b) × IsNotAfter y.0 y.1 x.0 x.1)))
