-- The variables of a chain are those of the text, where nothing is wrong with their numbers.
use Rattle.std.proofs.Common.{◌≡◌, ℕ, ◌<◌, List, Option, true, refl, arith, option_map}
use Rattle.std.specs.Prelude.{None, Some, Ok, Err, ℤ, pos, ◌≤ℤ◌, MatchOption, IfSome, ◌&&◌, int_le}
use Rattle.std.specs.Option.{option_map_or, option_or, option_and_then}
use Rattle.std.proofs.lemmas.Int.{ints}
use Rattle.chain_model.specs.declared.values.Sort.TheVariants as sort
use Rattle.chain_model.specs.declared.values.Value.{Value}
use Rattle.chain_model.specs.Chain.{IsVariable}
use Rattle.chain_model.specs.Step.{stored}
use Rattle.chain_model.specs.Values.{Valued}
use Rattle.prism_syntax.specs.declared.expressions.Expr.{Expr}
use Rattle.prism_syntax.specs.declared.models.Variable.{Variable}
use Rattle.prism_names.specs.First.{Name}
use Rattle.const_eval.specs.declared.consts.Constant.{Constant}
use Rattle.typed_trees.specs.Leaves.{shown}
use Rattle.typed_trees.specs.Numbers.{constant_value}
use Rattle.typecheck.specs.Numbers.{fault_of, whole_of}
use Rattle.typecheck.specs.Ranges.{variable_fault, least, greatest, start, if_outside}
use Rattle.typecheck.specs.Chains.{HasNumber, IsVariableOf}
use Rattle.typecheck.specs.Limits.{IsWithin}
use Rattle.typecheck.specs.Parts.{made_variable}
use Rattle.typecheck.proofs.FirstOfLemmas.{neither, both, passes}

-- a result without a fault is a number
number-is : (r : Valued) → fault_of r ≡ None → (v : Value) × (r ≡ Ok v) × (whole_of r ≡ stored v)
number-is (Ok v) none = (v, refl, refl)
number-is (Err f) none = absurd (let never : ⊥ = cc in never)

module _ (consts : List (Name × Constant)) where
  abbrev values : Expr → Valued
  values = constant_value consts

  has-number : (x : Expr) → fault_of (values x) ≡ None → HasNumber consts x (whole_of (values x))
  has-number x none = number-is (values x) none

  -- the ends of a range, and the first value
  ends : (range : Option (Expr × Expr)) → option_and_then (λ r. option_or (fault_of (values r.0)) (fault_of (values r.1))) range ≡ None
      → MatchOption range ((option_map_or (λ r. whole_of (values r.0)) range (pos 0) ≡ pos 0) × (option_map_or (λ r. whole_of (values r.1)) range (pos 1) ≡ pos 1))
      (λ r. HasNumber consts r.0 (option_map_or (λ q. whole_of (values q.0)) range (pos 0)) × HasNumber consts r.1 (option_map_or (λ q. whole_of (values q.1)) range (pos 1)))
  ends None none = (refl, refl)
  ends (Some r) none =
      let two = neither (fault_of (values r.0)) (fault_of (values r.1)) none in
      (has-number r.0 two.0, has-number r.1 two.1)

  starts : (init : Option Expr) (low : ℤ) → option_and_then (λ x. fault_of (values x)) init ≡ None
      → MatchOption init (option_map_or (λ x. whole_of (values x)) init low ≡ low) (λ x. HasNumber consts x (option_map_or (λ z. whole_of (values z)) init low))
  starts None low none = refl
  starts (Some x) low none = has-number x none

  -- the variable that is made of one of the text is that one
  pub variable-of : (t : Option ℕ × Variable) → option_map shown t.0 ≡ t.0 → variable_fault values t.1 ≡ None → IsVariableOf consts t (made_variable values t)
  variable-of t small none =
      let two = neither (option_and_then (λ r. option_or (fault_of (values r.0)) (fault_of (values r.1))) t.1.range) (option_and_then (λ x. fault_of (values x)) t.1.init) none in
      record {
        name = refl;
        owner = small;
        sort = refl;
        range = ends t.1.range two.0;
        start = starts t.1.init (least values t.1) two.1;
      }

  never-double : (range : Option (Expr × Expr)) → option_map_or (λ r. sort.Int) range sort.Bool ≡ sort.Double → ⊥
  never-double None is = let never : ⊥ = cc in never
  never-double (Some r) is = let never : ⊥ = cc in never

  truth-range : (range : Option (Expr × Expr)) → option_map_or (λ r. sort.Int) range sort.Bool ≡ sort.Bool
      → (option_map_or (λ r. whole_of (values r.0)) range (pos 0) ≡ pos 0) × (option_map_or (λ r. whole_of (values r.1)) range (pos 1) ≡ pos 1)
  truth-range None is = (refl, refl)
  truth-range (Some r) is = absurd (let never : ⊥ = cc in never)

  int_le-holds : (a b : ℤ) → int_le a b ≡ true → a ≤ℤ b
  int_le-holds a b holds = grind (arith, ints)

  -- it is one of a chain
  pub variable-is : (modules : ℕ) (t : Option ℕ × Variable) → IfSome (option_map shown t.0) (λ number. number < modules) → if_outside values t.1 ≡ None
      → IsWithin (made_variable values t) → IsVariable modules (made_variable values t)
  variable-is modules t owner inside within =
      let test = passes (int_le (least values t.1) (start values t.1) && int_le (start values t.1) (greatest values t.1)) t.1.name inside in
      let two = both (int_le (least values t.1) (start values t.1)) (int_le (start values t.1) (greatest values t.1)) test in
      record {
        kind = never-double t.1.range;
        owner = owner;
        from = int_le-holds (least values t.1) (start values t.1) two.0;
        to = int_le-holds (start values t.1) (greatest values t.1) two.1;
        least = within.0;
        greatest = within.1;
        truth = truth-range t.1.range;
      }
