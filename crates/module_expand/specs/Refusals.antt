-- Why a model has no flat text: the first cause in the listed order, with the first name in text order.
use Rattle.std.specs.Prelude.{◌≡◌, ◌<◌, ◌≤◌, ◌⊎◌, ℕ, List, [], Option, Some, None, map, find, position, bytes_eq, MatchOption, if◌then◌else◌, slice_get, is_some, option_and_then, Result, Ok, Err}
use Rattle.std.specs.List.{filter_map, slice_index_or}
use Rattle.prism_syntax.specs.declared.models.Named.{Named}
use Rattle.prism_syntax.specs.declared.models.Module.{Module}
use Rattle.prism_syntax.specs.declared.models.Module.TheVariants.{Written, Renamed}
use Rattle.prism_syntax.specs.declared.models.ModelText.{ModelText}
use Rattle.prism_syntax.specs.declared.models.FlatText.{FlatText}
use Rattle.prism_names.specs.First.{Name, first_some, first_repeated}
use Rattle.prism_names.specs.Names.{names_of}
use Rattle.name_graph.specs.Graph.{Graph, IsFirstCycle, HasNoCycle, IsOrder}
use Rattle.module_expand.specs.declared.fault.ExpandFault.{ExpandFault}
use Rattle.module_expand.specs.declared.fault.ExpandFault.TheVariants as fault
use Rattle.module_expand.specs.Renamed.{right_of, variables_of}
use Rattle.module_expand.specs.Flat.{is_written_as, IsFlat}
use Rattle.module_expand.specs.Duplicates.{duplicate_of}
use Rattle.module_expand.specs.Listed.{IsTooLarge}

-- the place of the first formula of this name
abbrev pub place_of : List Named → Name → Option ℕ
place_of formulas name = position (λ f. bytes_eq f.name name) formulas

-- for each formula the places of the formulas that its body names
abbrev pub uses_of : List Named → Graph
uses_of formulas = map (λ f. filter_map (place_of formulas) (names_of f.body)) formulas

-- the source of a renaming that isn't written out
abbrev pub missing_source : List Module → Module → Option Name
missing_source modules (Written title vars commands) = None
missing_source modules (Renamed title source pairs) =
    if is_some (position (is_written_as source) modules) then None else Some source

-- the name of the variable j of the module at place i
abbrev pub name_at : List Module → ℕ → ℕ → Option Name
name_at modules i j = option_and_then (λ m. slice_get (map (λ v. v.name) (variables_of m)) j) (slice_get modules i)

-- a renaming leaves out a variable: its source is the module at place i, whose variable j of this name has no pair
abbrev pub LeavesOut : List Module → Module → ℕ → ℕ → Name → Type 0
LeavesOut modules (Written title vars commands) i j name = ⊥
LeavesOut modules (Renamed title source pairs) i j name =
    (position (is_written_as source) modules ≡ Some i) × (name_at modules i j ≡ Some name)
    × (right_of pairs name ≡ None)

-- some renaming leaves out the variable j of the module at place i
abbrev pub IsLeftOut : List Module → ℕ → ℕ → Name → Type 0
IsLeftOut modules i j name = (k : ℕ) × ((d : Module) × (slice_get modules k ≡ Some d) × LeavesOut modules d i j name)

-- the variable at these places doesn't stand after the one at those
abbrev pub IsNotAfter : ℕ → ℕ → ℕ → ℕ → Type 0
IsNotAfter i j i' j' = (i < i') ⊎ ((i ≡ i') × (j ≤ j'))

-- the first variable in text order that some renaming leaves out has this name
pub record IsFirstLeftOut (modules : List Module) (name : Name) : Type 0 where
  pub i : ℕ
  pub j : ℕ
  pub left : IsLeftOut modules i j name
  pub first : (i' j' : ℕ) (other : Name) → IsLeftOut modules i' j' other → IsNotAfter i j i' j'

-- no renaming leaves out a variable
abbrev pub LeavesOutNone : List Module → Type 0
LeavesOutNone modules = (i j : ℕ) (name : Name) → IsLeftOut modules i j name → ⊥

-- a left name that stands twice in one list
abbrev pub renamed_twice : Module → Option Name
renamed_twice (Written title vars commands) = None
renamed_twice (Renamed title source pairs) = first_repeated (map (λ p. p.0) pairs) (map (λ p. p.0) pairs)

-- a right name that has a place among the formulas
abbrev pub renamed_to_formula : (Name → Option ℕ) → Module → Option Name
renamed_to_formula place (Written title vars commands) = None
renamed_to_formula place (Renamed title source pairs) = find (λ name. is_some (place name)) (map (λ p. p.1) pairs)

-- a name is wrong and the fault tells it, or none is wrong and the fault is a later one
abbrev pub Tells : Option Name → (Name → ExpandFault) → (ExpandFault → Type 0) → ExpandFault → Type 0
Tells wrong variant later f = MatchOption wrong (later f) (λ name. f ≡ variant name)

-- a formula reaches itself and the fault tells the first, or none does and the fault is a later one
abbrev pub TellsCycle : List Named → (ExpandFault → Type 0) → ExpandFault → Type 0
TellsCycle formulas later f =
    ((i : ℕ) × IsFirstCycle (uses_of formulas) i
    × (f ≡ fault.FormulaCycle (slice_index_or (map (λ g. g.name) formulas) i [])))
    ⊎ (HasNoCycle (uses_of formulas) × later f)

-- a variable is left out and the fault tells the first, or none is and the fault is a later one
abbrev pub TellsLeftOut : List Module → (ExpandFault → Type 0) → ExpandFault → Type 0
TellsLeftOut modules later f =
    ((name : Name) × IsFirstLeftOut modules name × (f ≡ fault.RenameLeavesVariable name))
    ⊎ (LeavesOutNone modules × later f)

-- the flat text is past the limits
abbrev pub TellsSize : ModelText → ExpandFault → Type 0
TellsSize m f = (f ≡ fault.TooLarge) × ((flat : FlatText) × IsFlat m flat × IsTooLarge flat)

-- what is told once names and formulas are right
abbrev pub IsRefusedAtModules : ModelText → ExpandFault → Type 0
IsRefusedAtModules m =
    Tells (first_some (missing_source m.modules) m.modules) fault.NoSuchModule
    (TellsLeftOut m.modules
    (Tells (first_some renamed_twice m.modules) fault.RenameTwice
    (Tells (first_some (renamed_to_formula (place_of m.formulas)) m.modules) fault.RenameToFormula
    (TellsSize m))))

-- expansion refuses the model with this fault: the first variant in the listed order, with the first name in text order
abbrev pub IsRefused : ModelText → ExpandFault → Type 0
IsRefused m = Tells (duplicate_of m) fault.Duplicate (TellsCycle m.formulas (IsRefusedAtModules m))

-- a model is refused with one fault at most
abbrev pub HasOneRefusal : Type 0
HasOneRefusal = (m : ModelText) (f g : ExpandFault) → IsRefused m f → IsRefused m g → f ≡ g

-- memory ran out
abbrev pub IsOutOfMemory : ExpandFault → Type 0
IsOutOfMemory (fault.Duplicate name) = ⊥
IsOutOfMemory (fault.FormulaCycle name) = ⊥
IsOutOfMemory (fault.NoSuchModule name) = ⊥
IsOutOfMemory (fault.RenameLeavesVariable name) = ⊥
IsOutOfMemory (fault.RenameTwice name) = ⊥
IsOutOfMemory (fault.RenameToFormula name) = ⊥
IsOutOfMemory fault.TooLarge = ⊥
IsOutOfMemory (fault.OutOfMemory error) = Unit {0}

-- a look for a wrong name: there is none, or the fault tells it; memory may run out
abbrev pub Looks : {T : Type 0} → Option Name → (Name → ExpandFault) → Result T ExpandFault → Type 0
Looks wrong variant (Ok done) = wrong ≡ None
Looks wrong variant (Err f) = IsOutOfMemory f ⊎ ((name : Name) × (wrong ≡ Some name) × (f ≡ variant name))

-- a look for a variable that is left out
abbrev pub LooksForLeftOut : {T : Type 0} → List Module → Result T ExpandFault → Type 0
LooksForLeftOut modules (Ok done) = LeavesOutNone modules
LooksForLeftOut modules (Err f) = IsOutOfMemory f ⊎ ((name : Name) × IsFirstLeftOut modules name
    × (f ≡ fault.RenameLeavesVariable name))

-- a look for a formula that reaches itself: an order of the formulas, or the fault
abbrev pub LooksForCycle : {T : Type 0} → (T → List ℕ) → List Named → Result T ExpandFault → Type 0
LooksForCycle places formulas (Ok order) = IsOrder (uses_of formulas) (places order)
LooksForCycle places formulas (Err f) =
    IsOutOfMemory f ⊎ ((i : ℕ) × IsFirstCycle (uses_of formulas) i
    × (f ≡ fault.FormulaCycle (slice_index_or (map (λ g. g.name) formulas) i [])))

-- accepted without a refusal, or refused with this fault
abbrev pub Decides : {T : Type 0} → (ExpandFault → Type 0) → Result T ExpandFault → Type 0
Decides refused (Ok done) = (f : ExpandFault) → ¬ refused f
Decides refused (Err f) = IsOutOfMemory f ⊎ refused f
