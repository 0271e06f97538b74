-- The cause of a trace's fault in words.
use Rattle.std.specs.Prelude.{ℕ, List, [], ◌++◌, codes, decimal, slice_get}
use Rattle.std.specs.Option.{option_map_or}
use Rattle.chain_model.specs.declared.chain.Chain.{Chain}
use Rattle.chain_model.specs.declared.outcome.TraceFault.{TraceFault}
use Rattle.chain_model.specs.declared.outcome.TraceFault.TheVariants.{Range, ZeroDivisor, OutOfLimit, OutsideDomain, Weights, Denominator, Choices}

-- the name of the variable of a number, if there is one
abbrev pub variable_name : Chain → ℕ → List ℕ
variable_name chain number = option_map_or (λ var. var.name) (slice_get chain.vars number) []

-- the cause in words: a variable by its name, a command by its number
abbrev pub cause_text : Chain → TraceFault → List ℕ
cause_text chain (Range var) = variable_name chain var ++ codes " outside its range"
cause_text chain ZeroDivisor = codes "zero divisor"
cause_text chain OutOfLimit = codes "number out of limit"
cause_text chain OutsideDomain = codes "outside the domain"
cause_text chain (Weights command) = codes "weights of command " ++ decimal command
cause_text chain (Denominator command) = codes "denominator of command " ++ decimal command
cause_text chain Choices = codes "too many choices"
