-- The variables and commands of a flat model, numbered as they stand in the text.
use Rattle.std.specs.Prelude.{ℕ, List, [], ◌∷◌, ◌++◌, Option, Some, None, map, flat_map, filter_map, bytes_eq, if◌then◌else◌}
use Rattle.std.specs.List.{enumerate_from}
use Rattle.std.specs.Option.{option_map_or}
use Rattle.indexmap.specs.IndexSet.{insert_key}
use Rattle.chain_model.specs.declared.values.Sort.{Sort}
use Rattle.chain_model.specs.declared.values.Sort.TheVariants as sort
use Rattle.prism_syntax.specs.declared.commands.Command.{Command}
use Rattle.prism_syntax.specs.declared.models.Variable.{Variable}
use Rattle.prism_syntax.specs.declared.models.Module.{Module}
use Rattle.prism_syntax.specs.declared.models.Module.TheVariants.{Written, Renamed}
use Rattle.prism_syntax.specs.declared.models.FlatText.{FlatText}
use Rattle.prism_names.specs.First.{Name, is_among}

-- the name, the variables and the commands of a module; those of a flat model are all written out
abbrev pub module_name : Module → Name
module_name (Written title vars commands) = title
module_name (Renamed title source pairs) = title

abbrev pub variables_of : Module → List Variable
variables_of (Written title vars commands) = vars
variables_of (Renamed title source pairs) = []

abbrev pub commands_of : Module → List Command
commands_of (Written title vars commands) = commands
commands_of (Renamed title source pairs) = []

-- a variable has a range where it is of sort `int`
abbrev pub declared_sort : Variable → Sort
declared_sort v = option_map_or (λ range. sort.Int) v.range sort.Bool

-- the variables: globals, which belong to no module, and then those of each module
abbrev pub declared_variables : FlatText → List (Option ℕ × Variable)
declared_variables flat =
    map (λ v. (None, v)) flat.globals ++ flat_map (λ m. map (λ v. (Some m.0, v)) (variables_of m.1)) (enumerate_from 0 flat.modules)

-- the names of the variables with their sorts
abbrev pub variable_sorts : FlatText → List (Name × Sort)
variable_sorts flat = map (λ v. (v.1.name, declared_sort v.1)) (declared_variables flat)

-- the commands, each with the number of its module
abbrev pub declared_commands : FlatText → List (ℕ × Command)
declared_commands flat = flat_map (λ m. map (λ c. (m.0, c)) (commands_of m.1)) (enumerate_from 0 flat.modules)

-- names without those that stood before
abbrev pub first_appearances : List Name → List Name → List Name
first_appearances seen [] = []
first_appearances seen (name ∷ names) =
    if is_among seen name then first_appearances seen names else name ∷ first_appearances (name ∷ seen) names

-- the actions, by first appearance
abbrev pub declared_actions : FlatText → List Name
declared_actions flat = first_appearances [] (filter_map (λ c. c.1.action) (declared_commands flat))

-- names with an action that is not among them, if there is one
abbrev pub with_name : List Name → Option Name → List Name
with_name names action = option_map_or (λ name. insert_key bytes_eq names name) action names
