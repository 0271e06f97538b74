-- Results as truth values and as whole numbers, and chains of them.
use Rattle.std.specs.Prelude.{ℤ, pos, ◌+ℤ◌, ◌-ℤ◌, ◌*ℤ◌, unsigned_abs, nat_lt, int_lt, List, [], ◌∷◌, Bool, false, not, Result, Ok, Err, if◌then◌else◌}
use Rattle.std.specs.Bool.{beq}
use Rattle.std.specs.Ordering.{int_eq}
use Rattle.smc_num.specs.declared.fault.NumFault.{NumFault}
use Rattle.smc_num.specs.Fraction.{limit, fraction_of}
use Rattle.smc_num.specs.Arithmetic.{modulo_of}
use Rattle.chain_model.specs.declared.outcome.TraceFault.{TraceFault}
use Rattle.chain_model.specs.declared.outcome.TraceFault.TheVariants.{OutOfLimit}
use Rattle.chain_model.specs.declared.values.Value.TheVariants as v
use Rattle.chain_model.specs.declared.expressions.Func.{Func}
use Rattle.chain_model.specs.declared.expressions.Func.TheVariants as f
use Rattle.chain_model.specs.declared.expressions.Op.{Op}
use Rattle.chain_model.specs.declared.expressions.Op.TheVariants as o
use Rattle.chain_model.specs.Results.{◌>>=◌}
use Rattle.chain_model.specs.Values.{Valued, truth, as_fault, as_value, whole_value}
use Rattle.chain_model.specs.Step.{stored}

-- a truth value or a fault, and a whole number or a fault
abbrev pub TruthResult : Type 0
TruthResult = Result Bool TraceFault

abbrev pub WholeResult : Type 0
WholeResult = Result ℤ TraceFault

-- what a value counts for as a truth value, and how it stands in a state
abbrev pub truth_of : Valued → TruthResult
truth_of x = x >>= λ a. Ok (truth a)

abbrev pub stored_of : Valued → WholeResult
stored_of x = x >>= λ a. Ok (stored a)

-- a truth value as a value, and a whole number
abbrev pub as_truth : TruthResult → Valued
as_truth x = x >>= λ b. Ok (v.Bool b)

unfoldable pub as_whole : WholeResult → Valued
as_whole x = x >>= whole_value

-- a whole number, unless it is outside the limits
abbrev pub limited : ℤ → WholeResult
limited n = if nat_lt (unsigned_abs n) limit then Ok n else Err OutOfLimit

-- the sum, difference or product of two whole numbers
abbrev pub whole_result : Op → ℤ → ℤ → WholeResult
whole_result o.Sub a b = limited (a -ℤ b)
whole_result o.Mul a b = limited (a *ℤ b)
whole_result _ a b = limited (a +ℤ b)

-- a whole number joined to the next part of its chain
abbrev pub linked_whole : Op → ℤ → WholeResult → WholeResult
linked_whole op a part = part >>= λ b. whole_result op a b

-- a chain of whole numbers is folded from the left
abbrev pub wholes_after : ℤ → List WholeResult → List Op → WholeResult
wholes_after a [] ops = Ok a
wholes_after a (part ∷ parts) [] = Ok a
wholes_after a (part ∷ parts) (op ∷ ops) = linked_whole op a part >>= λ b. wholes_after b parts ops

abbrev pub wholes_result : List WholeResult → List Op → WholeResult
wholes_result [] ops = Ok (pos 0)
wholes_result (part ∷ parts) ops = part >>= λ a. wholes_after a parts ops

-- the one of two whole numbers that `max` chooses, or `min`
abbrev pub chosen_whole : Func → ℤ → ℤ → ℤ
chosen_whole f.Max a b = if int_lt a b then b else a
chosen_whole _ a b = if int_lt b a then b else a

-- what a function chooses, two at a time, of a whole number and further parts
abbrev pub extreme_after : Func → ℤ → List WholeResult → WholeResult
extreme_after func a [] = Ok a
extreme_after func a (part ∷ parts) = part >>= λ b. extreme_after func (chosen_whole func a b) parts

abbrev pub extreme_result : Func → List WholeResult → WholeResult
extreme_result func [] = Ok (pos 0)
extreme_result func (part ∷ parts) = part >>= λ a. extreme_after func a parts

-- a whole number, or a fault of arithmetic as one of the trace
abbrev pub as_result : Result ℤ NumFault → WholeResult
as_result (Ok n) = Ok n
as_result (Err fault) = Err (as_fault fault)

-- the remainder of two whole numbers, and of two parts
abbrev pub whole_remainder : ℤ → ℤ → WholeResult
whole_remainder a b = as_result (modulo_of a b)

abbrev pub remainder_result : List WholeResult → WholeResult
remainder_result (x ∷ (y ∷ [])) = x >>= λ a. y >>= λ b. whole_remainder a b
remainder_result _ = Ok (pos 0)

-- a whole number over another
abbrev pub quotient_value : List WholeResult → Valued
quotient_value (x ∷ (y ∷ [])) = x >>= λ a. y >>= λ b. as_value (fraction_of a b)
quotient_value _ = Ok (v.Bool false)

-- how two whole numbers compare
abbrev pub compares : Op → ℤ → ℤ → Bool
compares o.Eq a b = int_eq a b
compares o.Ne a b = not (int_eq a b)
compares o.Lt a b = int_lt a b
compares o.Le a b = not (int_lt b a)
compares o.Gt a b = int_lt b a
compares o.Ge a b = not (int_lt a b)
compares _ a b = false

-- how the two parts of a comparison compare
abbrev pub compare_result : Op → List WholeResult → TruthResult
compare_result op (x ∷ (y ∷ [])) = x >>= λ a. y >>= λ b. Ok (compares op a b)
compare_result op _ = Ok false

-- `&` and `|`: parts are read up to the first that has the deciding truth value, or up to the first fault
abbrev pub junction_result : Bool → List TruthResult → TruthResult
junction_result deciding [] = Ok (not deciding)
junction_result deciding (part ∷ parts) = part >>= λ b. if beq b deciding then Ok deciding else junction_result deciding parts

-- a conditional reads its condition, and then the part that it picks
abbrev pub choice_value : TruthResult → Valued → Valued → Valued
choice_value condition first second = condition >>= λ b. if b then first else second
