-- The refusals of constants, in order, each with the first name in its order.
use Rattle.std.specs.Prelude.{◌≡◌, ◌⊎◌, ◌&&◌, ℕ, Bool, true, false, not, List, [], ◌++◌, Option, Some, None, option_map, is_some, Ok, Err, find, filter, MatchOption}
use Rattle.std.specs.Option.{option_or, option_map_or}
use Rattle.std.specs.List.{slice_index_or}
use Rattle.smc_num.specs.declared.fault.NumFault.{NumFault}
use Rattle.prism_syntax.specs.declared.models.ConstText.{ConstText}
use Rattle.chain_model.specs.declared.constants.Given.{Given}
use Rattle.chain_model.specs.declared.outcome.TraceFault.{TraceFault}
use Rattle.chain_model.specs.declared.values.Sort.{Sort}
use Rattle.chain_model.specs.declared.values.Sort.TheVariants as sort
use Rattle.chain_model.specs.Values.{Valued, as_fault}
use Rattle.prism_names.specs.First.{Name, is_among, first_some, first_repeated}
use Rattle.name_graph.specs.Graph.{HasNoCycle, IsFirstCycle}
use Rattle.const_eval.specs.declared.consts.Constant.{Constant}
use Rattle.const_eval.specs.declared.fault.ConstFault.{ConstFault}
use Rattle.const_eval.specs.declared.fault.ConstFault.TheVariants as fault
use Rattle.const_eval.specs.Tables.{sort_of_word}
use Rattle.const_eval.specs.Constants.{const_names, given_names, given_to, definition_names, sort_declared, sort_found, Results, AreResults, uses_of}

-- the first constant without a value in the text, to which none is given
abbrev pub first_undefined : (Name → Option Constant) → List ConstText → Option Name
first_undefined given consts = option_map (λ c. c.name) (find (λ c. not (is_some c.value) && not (is_some (given c.name))) consts)

-- the first of these names that is not known
abbrev pub first_missing : (Name → Bool) → List Name → Option Name
first_missing is_known names = find (λ name. not (is_known name)) names

-- the first name in a definition that is not known
abbrev pub first_unread : (Name → Bool) → List ConstText → Option Name
first_unread is_known consts = first_some (λ c. first_missing is_known (definition_names c)) consts

-- the first given name that is no constant, or else the first name in a definition that is none
abbrev pub unknown_of : List ConstText → List Given → Option Name
unknown_of consts given =
    let is_known : Name → Bool = is_among (const_names consts) in
    option_or (first_missing is_known (given_names given)) (first_unread is_known consts)

-- the constants that have a value in the text
abbrev pub defined_names : List ConstText → List Name
defined_names consts = const_names (filter (λ c. is_some c.value) consts)

-- the first given name that is given twice or has a value in the text: it stands more than once among the given and the defined names
abbrev pub given_twice_of : List ConstText → List Given → Option Name
given_twice_of consts given = first_repeated (given_names given ++ defined_names consts) (given_names given)

-- a sort fits a declared one: it is the same, or `int` where `double` is declared
abbrev pub fits : Sort → Sort → Bool
fits sort.Int sort.Int = true
fits sort.Double sort.Int = true
fits sort.Double sort.Double = true
fits sort.Bool sort.Bool = true
fits _ _ = false

-- a sort that was found fits a declared one
abbrev pub is_found_fitting : Sort → Option Sort → Bool
is_found_fitting declared found = option_map_or (fits declared) found false

-- the first constant whose definition has no sort, or with a value of a sort that does not fit the declared one
abbrev pub first_wrong_type : (Name → Option Sort) → (Name → Option Constant) → List ConstText → Option Name
first_wrong_type sorts given consts =
    option_map (λ c. c.name) (find (λ c. not (is_found_fitting (sort_of_word c.sort) (sort_found sorts given c))) consts)

-- the name of a result that is a fault, with the fault
abbrev pub fault_of : Name × Valued → Option (Name × TraceFault)
fault_of (name, Ok value) = None
fault_of (name, Err cause) = Some (name, cause)

-- the first result that is a fault
abbrev pub first_fault : Results → Option (Name × TraceFault)
first_fault results = first_some fault_of results

-- a name is wrong and the fault tells it, or none is wrong and the fault is a later one
abbrev pub Tells : Option Name → (Name → ConstFault) → (ConstFault → Type 0) → ConstFault → Type 0
Tells found variant later told = MatchOption found (later told) (λ name. told ≡ variant name)

-- a constant reaches itself and the fault tells the first that does
pub record TellsFirstCycle (consts : List ConstText) (told : ConstFault) : Type 0 where
  pub place : ℕ
  pub first : IsFirstCycle (uses_of consts) place
  pub tells : told ≡ fault.Cycle (slice_index_or (const_names consts) place [])

-- a constant reaches itself and the fault tells the first, or none does and the fault is a later one
abbrev pub TellsCycle : List ConstText → (ConstFault → Type 0) → ConstFault → Type 0
TellsCycle consts later told = TellsFirstCycle consts told ⊎ (HasNoCycle (uses_of consts) × later told)

-- the fault tells this name with its fault of arithmetic
pub record TellsFault (found : Option (Name × TraceFault)) (told : ConstFault) : Type 0 where
  pub name : Name
  pub cause : NumFault
  pub first : found ≡ Some (name, as_fault cause)
  pub tells : told ≡ fault.Num name cause

-- the fault tells the first of these results that is a fault
abbrev pub TellsFirstFault : Results → ConstFault → Type 0
TellsFirstFault results told = TellsFault (first_fault results) told

-- the fault tells the first constant in text order whose result is a fault
abbrev pub TellsNum : List ConstText → (Name → Option Constant) → ConstFault → Type 0
TellsNum consts given told = (results : Results) × AreResults consts given results × TellsFirstFault results told

-- the constants are refused with this fault: the first cause in the listed order, with the first name in its order
abbrev pub IsRefused : List ConstText → List Given → ConstFault → Type 0
IsRefused consts given =
    Tells (first_undefined (given_to given) consts) fault.Undefined
    (Tells (unknown_of consts given) fault.Unknown
    (Tells (given_twice_of consts given) fault.GivenTwice
    (TellsCycle consts
    (Tells (first_wrong_type (sort_declared consts) (given_to given) consts) fault.WrongType
    (TellsNum consts (given_to given))))))

-- memory ran out
abbrev pub IsOutOfMemory : ConstFault → Type 0
IsOutOfMemory (fault.OutOfMemory cause) = Unit {0}
IsOutOfMemory _ = ⊥

-- memory ran out, or the fault tells this name
abbrev pub IsTold : Option Name → (Name → ConstFault) → ConstFault → Type 0
IsTold found variant told = IsOutOfMemory told ⊎ ((name : Name) × (found ≡ Some name) × (told ≡ variant name))

-- constants are refused with one fault at most
abbrev pub HasOneRefusal : Type 0
HasOneRefusal = (consts : List ConstText) (given : List Given) (told other : ConstFault)
    → IsRefused consts given told → IsRefused consts given other → told ≡ other

-- by these tables each constant has a value, each name is a constant, and no name is given twice or has a value besides
pub record ArePassed (consts : List ConstText) (given : List Given) (sorts : Name → Option Sort) (table : Name → Option Constant) : Type 0 where
  pub undefined : first_undefined table consts ≡ None
  pub unknown : option_or (first_missing (λ name. is_some (sorts name)) (given_names given)) (first_unread (λ name. is_some (sorts name)) consts) ≡ None
  pub twice : given_twice_of consts given ≡ None
