-- The constants of a model: what each stands for is the value that it is given or else the value of its definition, in which names stand for constants.
use Rattle.std.specs.Prelude.{◌≡◌, true, List, [], Option, option_map, Ok, map, find, position, bytes_eq, reverse}
use Rattle.std.specs.Option.{option_or, option_map_or}
use Rattle.std.specs.List.{All, filter_map}
use Rattle.prism_syntax.specs.declared.models.ConstText.{ConstText}
use Rattle.chain_model.specs.declared.constants.Given.{Given}
use Rattle.chain_model.specs.declared.values.Sort.{Sort}
use Rattle.chain_model.specs.Sorts.{◌>>=◌, is_of_sort}
use Rattle.chain_model.specs.Values.{Valued}
use Rattle.prism_names.specs.First.{Name}
use Rattle.prism_names.specs.Names.{names_of}
use Rattle.name_graph.specs.Graph.{Graph, HasNoCycle}
use Rattle.const_eval.specs.declared.consts.Constant.{Constant}
use Rattle.const_eval.specs.Tables.{sort_of_word}
use Rattle.const_eval.specs.Sorting.{sort_in}
use Rattle.const_eval.specs.Evaluating.{value_in, by_table, some_value}

-- what is given, without its name
abbrev pub constant_given : Given → Constant
constant_given g = record { sort = g.sort; value = g.value }

-- the names of constants in text order
abbrev pub const_names : List ConstText → List Name
const_names consts = map (λ c. c.name) consts

-- the names that are given, in the order of the words
abbrev pub given_names : List Given → List Name
given_names given = map (λ g. g.name) given

-- the sort and the value that a name is given; of several the last, though a name that is given twice is refused
abbrev pub given_to : List Given → Name → Option Constant
given_to given name = option_map constant_given (find (λ g. bytes_eq g.name name) (reverse given))

-- the names that stand in the definition of a constant
abbrev pub definition_names : ConstText → List Name
definition_names c = option_map_or names_of c.value []

-- the sort that a name is declared with
abbrev pub sort_declared : List ConstText → Name → Option Sort
sort_declared consts name = option_map (λ c. sort_of_word c.sort) (find (λ c. bytes_eq c.name name) consts)

-- the sort of what a constant is given, or else that of its definition
abbrev pub sort_found : (Name → Option Sort) → (Name → Option Constant) → ConstText → Option Sort
sort_found sorts given c = option_or (option_map (λ g. g.sort) (given c.name)) (c.value >>= sort_in sorts)

-- names with their results
abbrev pub Results : Type 0
Results = List (Name × Valued)

-- the result of the first of this name; a name that is not there has some value
abbrev pub result_in : Results → Name → Valued
result_in results = by_table (λ name. option_map (λ r. r.1) (find (λ r. bytes_eq r.0 name) results))

-- the result of a constant, where names have these values: the value that it is given, or else that of its definition
abbrev pub result_of : (Name → Option Constant) → (Name → Valued) → ConstText → Valued
result_of given values c = option_map_or (λ g. Ok g.value) (given c.name) (option_map_or (value_in values) c.value some_value)

-- these are the results of the constants in text order: each is the constant's result where names have these very results
abbrev pub AreResults : List ConstText → (Name → Option Constant) → Results → Type 0
AreResults consts given results = results ≡ map (λ c. (c.name, result_of given (result_in results) c)) consts

-- for each constant the places of the constants that its definition reads
abbrev pub uses_of : List ConstText → Graph
uses_of consts = map (λ c. filter_map (λ name. position (λ other. bytes_eq other name) (const_names consts)) (definition_names c)) consts

-- where no constant reaches itself there is one list of results at most
abbrev pub HaveOneResult : Type 0
HaveOneResult = (consts : List ConstText) (given : Name → Option Constant) (results others : Results)
    → HasNoCycle (uses_of consts) → AreResults consts given results → AreResults consts given others → results ≡ others

-- constants as results
abbrev pub results_of : List (Name × Constant) → Results
results_of known = map (λ k. (k.0, Ok k.1.value)) known

-- the constants of a text with these given values: each name with its declared sort and its value, in text order
pub record AreConsts (consts : List ConstText) (given : Name → Option Constant) (known : List (Name × Constant)) : Type 0 where
  pub names : map (λ k. k.0) known ≡ const_names consts
  pub sorts : map (λ k. k.1.sort) known ≡ map (λ c. sort_of_word c.sort) consts
  pub values : AreResults consts given (results_of known)

-- what is given is of the sort that it is given with
abbrev pub AreGivenSorted : List Given → Type 0
AreGivenSorted given = All (λ g. is_of_sort g.sort g.value ≡ true) given

-- the value of each constant is of its sort
abbrev pub AreSorted : List (Name × Constant) → Type 0
AreSorted known = All (λ k. is_of_sort k.1.sort k.1.value ≡ true) known
