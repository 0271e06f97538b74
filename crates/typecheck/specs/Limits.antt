-- Variables whose ranges are within the limits of numbers.
use Rattle.chain_model.specs.declared.chain.Var.{Var}
use Rattle.chain_model.specs.Chain.{IsWithinLimits}

-- the ends of a variable's range are within the limits of numbers
abbrev pub IsWithin : Var → Type 0
IsWithin var = IsWithinLimits var.lo × IsWithinLimits var.hi
