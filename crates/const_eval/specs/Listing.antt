-- Constants gathered in maps and lists.
use Rattle.std.specs.Prelude.{◌≡◌, List, Option, option_map, Ok, Err, map, find, bytes_eq, unwrap_or, false}
use Rattle.prism_syntax.specs.declared.models.ConstText.{ConstText}
use Rattle.smc_num.specs.declared.fault.NumFault.{NumFault}
use Rattle.chain_model.specs.declared.outcome.TraceFault.{TraceFault}
use Rattle.chain_model.specs.declared.values.Sort.{Sort}
use Rattle.chain_model.specs.declared.values.Value.{Value}
use Rattle.chain_model.specs.declared.values.Value.TheVariants as v
use Rattle.chain_model.specs.Values.{Valued, as_fault}
use Rattle.prism_names.specs.First.{Name}
use Rattle.const_eval.specs.declared.consts.Constant.{Constant}
use Rattle.const_eval.specs.Tables.{sort_of_word}
use Rattle.const_eval.specs.Evaluating.{some_value}
use Rattle.const_eval.specs.Constants.{result_of, Results}

-- each name with its declared sort, in text order
abbrev pub declared_sorts : List ConstText → List (Name × Sort)
declared_sorts consts = map (λ c. (c.name, sort_of_word c.sort)) consts

-- each name with what it stands for, in text order
abbrev pub listed : (ConstText → Valued) → List ConstText → Results
listed result consts = map (λ c. (c.name, result c)) consts

-- names stand for the results of their first constants, where names stand for these very results; other names have some value
abbrev pub IsValuation : List ConstText → (Name → Option Constant) → (Name → Valued) → Type 0
IsValuation consts given values =
    (name : Name) → values name ≡ unwrap_or (option_map (result_of given values) (find (λ c. bytes_eq c.name name) consts)) some_value

-- a fault is one of arithmetic
abbrev pub IsArithmetic : TraceFault → Type 0
IsArithmetic fault = (cause : NumFault) × (as_fault cause ≡ fault)

-- a result that is a fault is one of arithmetic
abbrev pub FaultsInArithmetic : Valued → Type 0
FaultsInArithmetic (Ok value) = Unit {0}
FaultsInArithmetic (Err fault) = IsArithmetic fault

-- a value; a fault stands for some value
abbrev pub value_or_some : Valued → Value
value_or_some (Ok value) = value
value_or_some (Err fault) = v.Bool false

-- a constant with its declared sort and its result
abbrev pub known_of : (Name → Valued) → ConstText → Constant
known_of values c = record { sort = sort_of_word c.sort; value = value_or_some (values c.name) }

-- each name with what it stands for, in text order
abbrev pub listed_consts : (Name → Valued) → List ConstText → List (Name × Constant)
listed_consts values consts = map (λ c. (c.name, known_of values c)) consts

-- each name with its result, in text order
abbrev pub listed_results : (Name → Valued) → List ConstText → Results
listed_results values consts = listed (λ c. values c.name) consts
