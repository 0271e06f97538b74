-- The numbers of expressions of constants.
use Rattle.std.specs.Prelude.{ℤ, pos, Option, Some, None, Ok, Err}
use Rattle.smc_num.specs.declared.fault.NumFault.{NumFault}
use Rattle.smc_num.specs.declared.fault.NumFault.TheVariants as num
use Rattle.smc_num.specs.Fraction.{Fraction}
use Rattle.chain_model.specs.declared.outcome.TraceFault.{TraceFault}
use Rattle.chain_model.specs.declared.outcome.TraceFault.TheVariants as trace
use Rattle.chain_model.specs.declared.values.Value.TheVariants as value
use Rattle.chain_model.specs.Values.{Valued}
use Rattle.chain_model.specs.Step.{stored}

-- the fault of a result
abbrev pub fault_of : Valued → Option TraceFault
fault_of (Ok found) = None
fault_of (Err fault) = Some fault

-- the fault of arithmetic that a trace's fault is; an expression of constants has no other
abbrev pub number_fault : TraceFault → NumFault
number_fault trace.ZeroDivisor = num.ZeroDivisor
number_fault trace.OutsideDomain = num.OutsideDomain
number_fault trace.OutOfLimit = num.OutOfLimit
number_fault (trace.Range var) = num.OutOfLimit
number_fault (trace.Weights command) = num.OutOfLimit
number_fault (trace.Denominator command) = num.OutOfLimit
number_fault trace.Choices = num.OutOfLimit

-- the whole number that a value is in a state; a fault is none
abbrev pub whole_of : Valued → ℤ
whole_of (Ok found) = stored found
whole_of (Err fault) = pos 0

-- the number that a value is; a truth value and a fault are none
abbrev pub fraction_in : Valued → Fraction
fraction_in (Ok (value.Num x)) = x
fraction_in (Ok (value.Bool b)) = record { num = pos 0; den = 1 }
fraction_in (Err fault) = record { num = pos 0; den = 1 }
