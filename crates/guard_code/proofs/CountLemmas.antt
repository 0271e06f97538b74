-- Sums that count tests.
use Rattle.std.proofs.Common.{◌≡◌, ℕ, ◌+◌, ◌<◌, ◌≤◌, List, [], ◌∷◌, ◌++◌, map, length, take, get_or, Bool, true, false, cond, pos, ◌+ℤ◌, ℤ, Ok, Err, sym, ap, ◌∙◌, subst, arith, lt-ltb}
use Rattle.std.specs.Prelude.{if◌then◌else◌, Result, Option, Some, None, IfOk, IfSome}
use Rattle.std.specs.List.{list_all, count_by}
use Rattle.std.proofs.lemmas.List.Sums.{sum_by-cons}
use Rattle.std.proofs.lemmas.List.{take_more, take_all, map-append, length-map}
use Rattle.smc_num.specs.Fraction.{limit}
use Rattle.chain_model.specs.declared.outcome.TraceFault.TheVariants.{OutOfLimit}
use Rattle.chain_model.specs.declared.values.LabelValues.{LabelValues}
use Rattle.chain_model.specs.declared.expressions.Op.{Op}
use Rattle.chain_model.specs.declared.expressions.Op.TheVariants as o
use Rattle.chain_model.specs.Results.{◌>>=◌}
use Rattle.chain_model.specs.States.{State}
use Rattle.guard_code.specs.declared.nodes.Node.{Node}
use Rattle.guard_code.specs.declared.nodes.Node.TheVariants as n
use Rattle.guard_code.specs.declared.plain_tests.Test.{Test}
use Rattle.guard_code.specs.Tests.{test_holds}
use Rattle.guard_code.specs.Shapes.{is_sum}
use Rattle.guard_code.specs.Wholes.{WholeResult, limited, stored_of, as_whole, wholes_after, wholes_result}
use Rattle.guard_code.specs.Nodes.{node_value}
use Rattle.guard_code.specs.Joins.{IsCalculationOf, IsCounted, AreCounted, IsCountOf, stored_parts}
use Rattle.guard_code.proofs.WholeLemmas.{stored_as_whole}
use Rattle.guard_code.proofs.NodeLemmas.{value-count, value-plain_if}

-- a small number is within the limits
limited_small : (k : ℕ) → k ≤ 65536 → limited (pos k) ≡ Ok (pos k)
limited_small k le = ap (λ (b : Bool). if b then Ok (pos k) else Err OutOfLimit) (lt-ltb k limit (omega (arith, le)))

-- what one part adds to a number
one_more : (b : Bool) (a k : ℕ) (rest : ℤ → WholeResult) → a + 1 ≤ 65536 → ((c : ℕ) → c ≤ a + 1 → rest (pos c) ≡ Ok (pos (c + k)))
    → (limited (pos a +ℤ (if b then pos 1 else pos 0)) >>= rest) ≡ Ok (pos (a + (cond b 1 0 + k)))
one_more true a k rest le is =
    ap (λ (r : WholeResult). r >>= rest) (limited_small (a + 1) le) ∙ is (a + 1) (omega arith) ∙ ap (λ (m : ℕ). Ok (pos m)) (omega arith)
one_more false a k rest le is =
    ap (λ (r : WholeResult). r >>= rest) (limited_small (a + 0) (omega (arith, le))) ∙ is (a + 0) (omega arith) ∙ ap (λ (m : ℕ). Ok (pos m)) (omega arith)

-- what the parts count, as whole numbers
abbrev counted : (Test → Bool) → List Test → List WholeResult
counted f tests = map (λ test. Ok (if f test then pos 1 else pos 0)) tests

-- the first test and those after it
count_first : (f : Test → Bool) (test : Test) (tests : List Test) → count_by f (test ∷ tests) ≡ cond (f test) 1 0 + count_by f tests
count_first f test tests = sum_by-cons (λ t. cond (f t) 1 0) test tests

-- a number and the parts after it
counts_after : (f : Test → Bool) (tests : List Test) (ops : List Op) (a : ℕ) → length tests ≡ length ops → list_all is_sum ops ≡ true → a + length tests ≤ 65536
    → wholes_after (pos a) (counted f tests) ops ≡ Ok (pos (a + count_by f tests))
counts_after f [] ops a long are few = ap (λ (m : ℕ). Ok (pos m)) (omega arith)
counts_after f (test ∷ tests) [] a long are few = absurd (omega (arith, long))
counts_after f (test ∷ tests) (o.Add ∷ ops) a long are few =
    one_more (f test) a (count_by f tests) (λ b. wholes_after b (counted f tests) ops) (omega (arith, few))
    (λ c le. counts_after f tests ops c (omega (arith, long)) are (omega (arith, few, le)))
    ∙ ap (λ (k : ℕ). Ok (pos (a + k))) (sym (count_first f test tests))
counts_after f (test ∷ tests) (op ∷ ops) a long are few = absurd (cc)

first_one : (b : Bool) (k : ℕ) (rest : ℤ → WholeResult) → ((c : ℕ) → c ≤ 1 → rest (pos c) ≡ Ok (pos (c + k)))
    → rest (if b then pos 1 else pos 0) ≡ Ok (pos (cond b 1 0 + k))
first_one true k rest is = is 1 (omega arith)
first_one false k rest is = is 0 (omega arith)

-- a sum of such parts is how many of the tests hold
pub counts_all : (f : Test → Bool) (tests : List Test) (ops : List Op) → length tests ≡ length ops + 1 → length tests ≤ 65536 → list_all is_sum ops ≡ true
    → wholes_result (counted f tests) ops ≡ Ok (pos (count_by f tests))
counts_all f [] ops long few are = absurd (omega (arith, long))
counts_all f (test ∷ tests) ops long few are =
    first_one (f test) (count_by f tests) (λ a. wholes_after a (counted f tests) ops)
    (λ c le. counts_after f tests ops c (omega (arith, long)) are (omega (arith, few, le)))
    ∙ ap (λ (k : ℕ). Ok (pos k)) (sym (count_first f test tests))

-- as many tests as parts
same_length : (tests : List Test) (parts : List Node) (labels : LabelValues) (state : State) → AreCounted tests parts → length tests ≡ length parts
same_length tests parts labels state are =
    let one : Test → WholeResult = λ test. Ok (if test_holds state test then pos 1 else pos 0) in
    sym (length-map tests one)
    ∙ ap length (sym (are.same labels state))
    ∙ length-map (map (node_value labels state) parts) stored_of
    ∙ length-map parts (node_value labels state)

count_of : (tests : List Test) (parts : List Node) (ops : List Op) → length parts ≡ length ops + 1 → length parts ≤ 65536 → list_all is_sum ops ≡ true
    → AreCounted tests parts → IsCountOf tests parts ops
count_of tests parts ops long few all are = record {
  same = λ labels state.
      ap (λ (rs : List WholeResult). wholes_result rs ops) (are.same labels state)
      ∙ counts_all (test_holds state) tests ops (same_length tests parts labels state are ∙ long)
      (omega (arith, same_length tests parts labels state are, few)) all;
}

pub count_of_ok : {E : Type 0} (r : Result (Option (List Test)) E) (parts : List Node) (ops : List Op) → length parts ≡ length ops + 1 → length parts ≤ 65536 → list_all is_sum ops ≡ true
    → IfOk r (λ found. IfSome found (λ tests. AreCounted tests parts)) → IfOk r (λ found. IfSome found (λ tests. IsCountOf tests parts ops))
count_of_ok (Err e) parts ops long few all are = tt
count_of_ok (Ok None) parts ops long few all are = tt
count_of_ok (Ok (Some tests)) parts ops long few all are = count_of tests parts ops long few all are

-- the node that counts is the chain
pub is_count : (tests : List Test) (parts : List Node) (ops : List Op) → IsCountOf tests parts ops → IsCalculationOf (n.Count tests) parts ops
is_count tests parts ops count = record {
  same = λ labels state small. value-count labels state tests ∙ ap as_whole (sym (count.same labels state));
}

-- ---- the parts, one after another

small_one : (b : Bool) → stored_of (as_whole (Ok (if b then pos 1 else pos 0))) ≡ Ok (if b then pos 1 else pos 0)
small_one true = stored_as_whole (Ok (pos 1))
small_one false = stored_as_whole (Ok (pos 0))

pub counted_part : (part : Node) (test : Test) (a b : ℤ) → part ≡ n.PlainIf test a b → a ≡ pos 1 → b ≡ pos 0 → IsCounted test part
counted_part part test a b is one zero = record {
  same = λ labels state.
      ap (λ (x : Node). stored_of (node_value labels state x)) (is ∙ ap (λ (c : ℤ). n.PlainIf test c b) one ∙ ap (λ (d : ℤ). n.PlainIf test (pos 1) d) zero)
      ∙ ap stored_of (value-plain_if labels state test (pos 1) (pos 0))
      ∙ small_one (test_holds state test);
}

pub counted_more : (tests : List Test) (parts : List Node) (i : ℕ) (part : Node) (test : Test) (after : List Test) → i < length parts → part ≡ get_or parts i part
    → IsCounted test part → after ≡ tests ++ (test ∷ []) → AreCounted tests (take i parts) → AreCounted after (take (i + 1) parts)
counted_more tests parts i part test after lt is one more are = record {
  same = λ labels state.
      let f : Node → WholeResult = λ x. stored_of (node_value labels state x) in
      let h : Test → WholeResult = λ t. Ok (if test_holds state t then pos 1 else pos 0) in
      ap (stored_parts labels state) (take_more parts i part lt)
      ∙ ap (map stored_of) (map-append (node_value labels state) (take i parts) (get_or parts i part ∷ []))
      ∙ map-append stored_of (map (node_value labels state) (take i parts)) (node_value labels state (get_or parts i part) ∷ [])
      ∙ ap (λ (rs : List WholeResult). rs ++ (f (get_or parts i part) ∷ [])) (are.same labels state)
      ∙ ap (λ (x : Node). map h tests ++ (f x ∷ [])) (sym is)
      ∙ ap (λ (r : WholeResult). map h tests ++ (r ∷ [])) (one.same labels state)
      ∙ sym (map-append h tests (test ∷ []))
      ∙ ap (map h) (sym more);
}

pub counted_all : (tests : List Test) (parts : List Node) (i : ℕ) → length parts ≤ i → AreCounted tests (take i parts) → AreCounted tests parts
counted_all tests parts i le = subst (AreCounted tests) (take_all i parts le)
