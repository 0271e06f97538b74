-- The node of a chain by what its parts make of it.
use Rattle.std.proofs.Common.{◌≡◌, ℕ, zero, suc, ◌+◌, ◌<◌, ◌≤◌, List, [], ◌∷◌, ◌++◌, map, length, take, get_or, Bool, true, false, Ok, refl, sym, ap, ap₂, ◌∙◌, subst, arith, lt-ltb, inl, inr}
use Rattle.std.specs.Prelude.{ℤ, pos, count_by, ◌+ℤ◌, nat_le, Result, IfOk, Some, None, Option, IfSome, unsigned_abs, if◌then◌else◌, Err}
use Rattle.std.proofs.lemmas.Bool.{cases_lt, false≢true}
use Rattle.std.proofs.lemmas.List.{take_more, take_all, map-append}
use Rattle.smc_num.specs.Fraction.{Fraction, IsFrac, limit}
use Rattle.chain_model.specs.declared.outcome.TraceFault.TheVariants.{OutOfLimit}
use Rattle.chain_model.specs.declared.values.LabelValues.{LabelValues}
use Rattle.chain_model.specs.declared.values.Value.{Value}
use Rattle.chain_model.specs.declared.values.Value.TheVariants as v
use Rattle.chain_model.specs.declared.expressions.Op.{Op}
use Rattle.chain_model.specs.declared.expressions.Func.{Func}
use Rattle.chain_model.specs.States.{State}
use Rattle.chain_model.specs.Values.{Valued, call_value}
use Rattle.guard_code.specs.declared.nodes.Node.{Node}
use Rattle.guard_code.specs.declared.nodes.Node.TheVariants as n
use Rattle.guard_code.specs.declared.plain_tests.Test.{Test}
use Rattle.guard_code.specs.declared.shapes.Side.{Side}
use Rattle.guard_code.specs.Tests.{IsSmall, number_in, test_holds}
use Rattle.guard_code.specs.Shapes.{side_value}
use Rattle.guard_code.specs.Wholes.{TruthResult, WholeResult, wholes_result, extreme_result, remainder_result, stored_of, truth_of, as_truth, as_whole, compares, compare_result, choice_value}
use Rattle.guard_code.specs.Nodes.{node_value}
use Rattle.guard_code.specs.Means.{Always, Joins, IsWhole}
use Rattle.guard_code.specs.Joins.{FoldsTo, CallsTo, IsCompared, IsComparisonOf, IsTestOf, IsCalculated, IsCalculationOf, IsQuotient, IsDecided, IsJunctionOf, AreTests, stored_parts}
use Rattle.guard_code.proofs.WholeLemmas.{stored_as_whole, whole_again, literal_again}
use Rattle.guard_code.proofs.NodeLemmas.{value-lit, value-number, value-shifted, value-plain, value-every, value-any, value-arithmetic, value-extreme, value-remainder, value-quotient, value-plain_if, value-count, value-if}
use Rattle.guard_code.proofs.KindLemmas.{junction_every, junction_any}

pub joins_compared : (node : Node) (op : Op) (parts : List Node) (ops : List Op) → IsCompared op parts ops → IsComparisonOf node op parts → Joins node parts ops
joins_compared node op parts ops chain is = record { same = λ labels state small. is.same labels state small ∙ sym (chain.same labels state small) }

joins_calculated : (node : Node) (parts : List Node) (ops : List Op) → IsCalculated parts ops → IsCalculationOf node parts ops → Joins node parts ops
joins_calculated node parts ops chain is = record { same = λ labels state small. is.same labels state small ∙ sym (chain.same labels state small) }

pub joins_calculated_ok : {E : Type 0} (r : Result Node E) (parts : List Node) (ops : List Op) → IsCalculated parts ops → IfOk r (λ node. IsCalculationOf node parts ops)
    → IfOk r (λ node. Joins node parts ops)
joins_calculated_ok (Ok node) parts ops chain is = joins_calculated node parts ops chain is
joins_calculated_ok (Err e) parts ops chain is = tt

pub joins_quotient : (parts : List Node) (ops : List Op) → IsQuotient parts ops → Joins (n.Quotient parts) parts ops
joins_quotient parts ops is = record { same = λ labels state small. value-quotient labels state parts ∙ sym (is.same labels state small) }

pub joins_decided : (node : Node) (deciding : Bool) (parts : List Node) (ops : List Op) → IsDecided deciding parts ops → IsJunctionOf node deciding parts → Joins node parts ops
joins_decided node deciding parts ops chain is = record { same = λ labels state small. is.same labels state small ∙ sym (chain.same labels state small) }

pub joins_decided_ok : {E : Type 0} (r : Result Node E) (deciding : Bool) (parts : List Node) (ops : List Op) → IsDecided deciding parts ops
    → IfOk r (λ node. IsJunctionOf node deciding parts) → IfOk r (λ node. Joins node parts ops)
joins_decided_ok (Ok node) deciding parts ops chain is = joins_decided node deciding parts ops chain is
joins_decided_ok (Err e) deciding parts ops chain is = tt

pub joins_literal : (value : Value) (parts : List Node) (ops : List Op) → FoldsTo value parts ops → Joins (n.Lit value) parts ops
joins_literal value parts ops folds = record { same = λ labels state small. value-lit labels state value ∙ sym (folds.same labels state) }

pub is_comparison_test : (test : Test) (op : Op) (parts : List Node) → IsTestOf test op parts → IsComparisonOf (n.Plain test) op parts
is_comparison_test test op parts is = record { same = λ labels state small. value-plain labels state test ∙ sym (is.same labels state small) }

pub is_junction_every : (tests : List Test) (parts : List Node) → AreTests tests parts → IsJunctionOf (n.Every tests) false parts
is_junction_every tests parts are = record { same = λ labels state small. value-every labels state tests ∙ junction_every parts tests are.same labels state }

pub is_junction_any : (tests : List Test) (parts : List Node) → AreTests tests parts → IsJunctionOf (n.Any tests) true parts
is_junction_any tests parts are = record { same = λ labels state small. value-any labels state tests ∙ junction_any parts tests are.same labels state }

pub calls_literal : (value : Value) (func : Func) (parts : List Node) (labels : LabelValues) (state : State) → CallsTo value func parts
    → node_value labels state (n.Lit value) ≡ call_value func (map (node_value labels state) parts)
calls_literal value func parts labels state calls = value-lit labels state value ∙ sym (calls.same labels state)

-- ---- lists of known length

pub only_one : (ops : List Op) (d : Op) → 1 ≤ length ops → length ops < 2 → ops ≡ get_or ops 0 d ∷ []
only_one [] d some few = absurd (omega (arith, some))
only_one (op ∷ []) d some few = refl
only_one (op ∷ (other ∷ ops)) d some few = absurd (omega (arith, few))

pub two_of : (parts : List Node) (a b : Node) → 2 ≤ length parts → length parts < 3 → a ≡ get_or parts 0 a → b ≡ get_or parts 1 b → parts ≡ a ∷ (b ∷ [])
two_of [] a b some few first second = absurd (omega (arith, some))
two_of (x ∷ []) a b some few first second = absurd (omega (arith, some))
two_of (x ∷ (y ∷ (z ∷ parts))) a b some few first second = absurd (omega (arith, few))
two_of (x ∷ (y ∷ [])) a b some few first second = λ i. sym first i ∷ (sym second i ∷ [])

-- a whole number of a state
pub stored_small : (n : ℤ) → unsigned_abs n < limit → stored_of (as_whole (Ok n)) ≡ Ok n
stored_small n lt = stored_as_whole (Ok n) ∙ ap (λ (b : Bool). if b then Ok n else Err OutOfLimit) (lt-ltb (unsigned_abs n) limit lt)

pub stored_variable : (node : Node) (x : ℕ) → node ≡ n.Number x → Always (λ labels state. stored_of (node_value labels state node) ≡ Ok (number_in state x))
stored_variable node x is = λ labels state small.
    ap (λ (m : Node). stored_of (node_value labels state m)) is ∙ ap stored_of (value-number labels state x) ∙ stored_small (number_in state x) (small x)

-- nodes that give whole numbers alone
again : (x : Valued) (r : WholeResult) → x ≡ as_whole r → x ≡ as_whole (stored_of x)
again x r is = is ∙ sym (whole_again r) ∙ ap (λ y. as_whole (stored_of y)) (sym is)

pub whole_of_number : (node : Node) (x : ℕ) → node ≡ n.Number x → IsWhole node
whole_of_number node x is = subst IsWhole (sym is) (record { same = λ labels state small. again (node_value labels state (n.Number x)) (Ok (number_in state x)) (value-number labels state x) })

pub whole_of_shifted : (node : Node) (x : ℕ) (by : ℤ) → node ≡ n.Shifted x by → IsWhole node
whole_of_shifted node x by is = subst IsWhole (sym is) (record { same = λ labels state small. again (node_value labels state (n.Shifted x by)) (Ok (number_in state x +ℤ by)) (value-shifted labels state x by) })

pub whole_of_arithmetic : (node : Node) (parts : List Node) (ops : List Op) → node ≡ n.Arithmetic parts ops → IsWhole node
whole_of_arithmetic node parts ops is =
    subst IsWhole (sym is) (record { same = λ labels state small. again (node_value labels state (n.Arithmetic parts ops)) (wholes_result (stored_parts labels state parts) ops) (value-arithmetic labels state parts ops) })

pub whole_of_extreme : (node : Node) (func : Func) (parts : List Node) → node ≡ n.Extreme func parts → IsWhole node
whole_of_extreme node func parts is =
    subst IsWhole (sym is) (record { same = λ labels state small. again (node_value labels state (n.Extreme func parts)) (extreme_result func (stored_parts labels state parts)) (value-extreme labels state func parts) })

pub whole_of_literal : (node : Node) (x : Value) → node ≡ n.Lit x → Ok x ≡ as_whole (stored_of (Ok x)) → IsWhole node
whole_of_literal node x is whole =
    subst IsWhole (sym is) (record {
      same = λ labels state small.
          value-lit labels state x ∙ whole ∙ ap (λ y. as_whole (stored_of y)) (sym (value-lit labels state x));
    })

pub whole_of_remainder : (node : Node) (parts : List Node) → node ≡ n.Remainder parts → IsWhole node
whole_of_remainder node parts is =
    subst IsWhole (sym is) (record { same = λ labels state small. again (node_value labels state (n.Remainder parts)) (remainder_result (stored_parts labels state parts)) (value-remainder labels state parts) })

pub whole_of_plain_if : (node : Node) (test : Test) (a b : ℤ) → node ≡ n.PlainIf test a b → IsWhole node
whole_of_plain_if node test a b is =
    subst IsWhole (sym is) (record { same = λ labels state small. again (node_value labels state (n.PlainIf test a b)) (Ok (if test_holds state test then a else b)) (value-plain_if labels state test a b) })

pub whole_of_count : (node : Node) (tests : List Test) → node ≡ n.Count tests → IsWhole node
whole_of_count node tests is =
    subst IsWhole (sym is) (record { same = λ labels state small. again (node_value labels state (n.Count tests)) (Ok (pos (count_by (test_holds state) tests))) (value-count labels state tests) })

choice_again : (t : TruthResult) (x y : Valued) → x ≡ as_whole (stored_of x) → y ≡ as_whole (stored_of y) → choice_value t x y ≡ as_whole (stored_of (choice_value t x y))
unfolding as_whole
choice_again (Err fault) x y p q = refl
choice_again (Ok true) x y p q = p
choice_again (Ok false) x y p q = q

pub whole_of_if : (node condition first second : Node) → node ≡ n.If condition first second → IsWhole first → IsWhole second → IsWhole node
whole_of_if node condition first second is p q =
    subst IsWhole (sym is) (record {
      same = λ labels state small.
          value-if labels state condition first second
          ∙ choice_again (truth_of (node_value labels state condition)) (node_value labels state first) (node_value labels state second) (p.same labels state small) (q.same labels state small)
          ∙ ap (λ x. as_whole (stored_of x)) (sym (value-if labels state condition first second));
    })

pub whole_literal : (value : Value) (x : Fraction) → value ≡ v.Num x → x.den ≡ 1 → IsFrac x → Ok value ≡ as_whole (stored_of (Ok value))
whole_literal value x is one lowest =
    let P : Value → Type 0 = λ y. Ok y ≡ as_whole (stored_of (Ok y)) in
    subst P (sym is) (sym (literal_again x one (lt-ltb (unsigned_abs x.num) limit lowest.num_small)))

-- tests that do not hold
pub none_at_least : (k : ℕ) → k < 1 → nat_le 1 k ≡ true → ⊥
none_at_least zero lt e = false≢true e
none_at_least (suc k) lt e = absurd (omega (arith, lt))

-- a comparison of two sides
pub compared_sides : (op : Op) (parts : List Node) (first second : Node) (left right : Side) (found : Option Test) → 2 ≤ length parts → length parts < 3
    → first ≡ get_or parts 0 first → second ≡ get_or parts 1 second
    → Always (λ labels state. stored_of (node_value labels state first) ≡ Ok (side_value state left))
    → Always (λ labels state. stored_of (node_value labels state second) ≡ Ok (side_value state right))
    → IfSome found (λ test. (state : State) → IsSmall state → test_holds state test ≡ compares op (side_value state left) (side_value state right))
    → IfSome found (λ test. IsTestOf test op parts)
compared_sides op parts first second left right None some few a b p q is = tt
compared_sides op parts first second left right (Some test) some few a b p q is = record {
  same = λ labels state small.
      ap (λ (ps : List Node). as_truth (compare_result op (stored_parts labels state ps))) (two_of parts first second some few a b)
      ∙ ap₂ (λ (x y : WholeResult). as_truth (compare_result op (x ∷ (y ∷ [])))) (p labels state small) (q labels state small)
      ∙ ap (λ h. Ok (v.Bool h)) (sym (is state small));
}

-- what holds of each before, and of the next
get_or_same : (xs : List Node) (i : ℕ) (d e : Node) → i < length xs → get_or xs i d ≡ get_or xs i e
get_or_same [] i d e lt = absurd (omega (arith, lt))
get_or_same (x ∷ xs) zero d e lt = refl
get_or_same (x ∷ xs) (suc i) d e lt = get_or_same xs i d e (omega (arith, lt))

pub next_too : (P : Node → Type 0) (xs : List Node) (i : ℕ) (x : Node) → i < length xs → x ≡ get_or xs i x → P x → ((k : ℕ) (d : Node) → k < i → P (get_or xs k d))
    → (k : ℕ) (d : Node) → k < i + 1 → P (get_or xs k d)
next_too P xs i x lt is here before k d less = elim (cases_lt k i) [
  | inl below ↦ before k d below
  | inr above ↦
      let same : k ≡ i = omega (arith, less, above) in
      subst (λ (m : ℕ). P (get_or xs m d)) (sym same) (subst P (is ∙ get_or_same xs i x d lt) here)
]

-- ---- plain tests, one after another

pub tests_more : (tests : List Test) (parts : List Node) (i : ℕ) (part : Node) (test : Test) (after : List Test) → i < length parts → part ≡ get_or parts i part
    → part ≡ n.Plain test → after ≡ tests ++ (test ∷ []) → AreTests tests (take i parts) → AreTests after (take (i + 1) parts)
tests_more tests parts i part test after lt is plain more are = record {
  same = λ labels state.
      ap (map (node_value labels state)) (take_more parts i part lt)
      ∙ map-append (node_value labels state) (take i parts) (get_or parts i part ∷ [])
      ∙ ap (λ vs. vs ++ (node_value labels state (get_or parts i part) ∷ [])) (are.same labels state)
      ∙ ap (λ (x : Node). map (λ t. Ok (v.Bool (test_holds state t))) tests ++ (node_value labels state x ∷ [])) (sym is ∙ plain)
      ∙ ap (λ x. map (λ t. Ok (v.Bool (test_holds state t))) tests ++ (x ∷ [])) (value-plain labels state test)
      ∙ sym (map-append (λ (t : Test). Ok (v.Bool (test_holds state t))) tests (test ∷ []))
      ∙ ap (map (λ (t : Test). Ok (v.Bool (test_holds state t)))) (sym more);
}

pub tests_all : (tests : List Test) (parts : List Node) (i : ℕ) → length parts ≤ i → AreTests tests (take i parts) → AreTests tests parts
tests_all tests parts i le = subst (AreTests tests) (take_all i parts le)
