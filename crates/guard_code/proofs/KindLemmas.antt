-- Chains of nodes of one kind.
use Rattle.std.proofs.Common.{◌≡◌, suc, ◌≤◌, List, [], ◌∷◌, map, length, Bool, true, false, Ok, refl, sym, ap, ◌∙◌, arith, ◌&&◌, ◌||◌, ◌+◌}
use Rattle.std.specs.Prelude.{All, if◌then◌else◌}
use Rattle.std.specs.Bool.{beq}
use Rattle.std.specs.List.{list_all, list_any}
use Rattle.std.proofs.lemmas.List.{length-map}
use Rattle.chain_model.specs.declared.values.LabelValues.{LabelValues}
use Rattle.chain_model.specs.declared.values.Value.{Value}
use Rattle.chain_model.specs.declared.values.Value.TheVariants as v
use Rattle.chain_model.specs.declared.expressions.Func.{Func}
use Rattle.chain_model.specs.declared.expressions.Func.TheVariants as f
use Rattle.chain_model.specs.declared.expressions.Op.{Op}
use Rattle.chain_model.specs.declared.expressions.Op.TheVariants as o
use Rattle.chain_model.specs.States.{State}
use Rattle.chain_model.specs.Values.{level_value, call_value}
use Rattle.guard_code.specs.declared.nodes.Node.{Node}
use Rattle.guard_code.specs.declared.plain_tests.Test.{Test}
use Rattle.guard_code.specs.Tests.{IsSmall, test_holds}
use Rattle.guard_code.specs.Wholes.{TruthResult, stored_of, truth_of, as_whole, as_truth, compare_result, wholes_result, extreme_result, remainder_result, quotient_value, junction_result}
use Rattle.guard_code.specs.Nodes.{node_value}
use Rattle.guard_code.specs.Shapes.{is_arithmetic, is_comparison, is_extreme, is_junction}
use Rattle.guard_code.specs.Means.{Always, IsWhole, IsTruth, IsFixed}
use Rattle.guard_code.proofs.ExtremeLemmas.{extreme_law, remainder_law}
use Rattle.guard_code.proofs.ChainLemmas.{AllWhole, whole_valued, truth_valued, arithmetic_law, comparison_law, quotient_law}
use Rattle.guard_code.proofs.JunctionLemmas.{AllTruth, junction_law}

rest_all : (P : Node → Type 0) (part : Node) (parts : List Node) → All P (part ∷ parts) → All P parts
rest_all P part parts all = λ k d lt. all (suc k) d (omega (arith, lt))

whole_values : (labels : LabelValues) (state : State) → IsSmall state → (parts : List Node) → All IsWhole parts → AllWhole (map (node_value labels state) parts)
unfolding AllWhole
whole_values labels state small [] all = tt
whole_values labels state small (part ∷ parts) all =
    (whole_valued (node_value labels state part) ((all 0 part (omega arith)).same labels state small), whole_values labels state small parts (rest_all IsWhole part parts all))

truth_values : (labels : LabelValues) (state : State) → IsSmall state → (parts : List Node) → All IsTruth parts → AllTruth (map (node_value labels state) parts)
unfolding AllTruth
truth_values labels state small [] all = tt
truth_values labels state small (part ∷ parts) all =
    (truth_valued (node_value labels state part) ((all 0 part (omega arith)).same labels state small), truth_values labels state small parts (rest_all IsTruth part parts all))

-- literals have the same values in every state
fixed_values : (labels labels' : LabelValues) (state state' : State) (parts : List Node) → All IsFixed parts
    → map (node_value labels state) parts ≡ map (node_value labels' state') parts
fixed_values labels labels' state state' [] all = refl
fixed_values labels labels' state state' (part ∷ parts) all =
    ap (λ x. x ∷ map (node_value labels state) parts) ((all 0 part (omega arith)).same labels state ∙ sym ((all 0 part (omega arith)).same labels' state'))
    ∙ ap (λ xs. node_value labels' state' part ∷ xs) (fixed_values labels labels' state state' parts (rest_all IsFixed part parts all))

pub fixed_chain : (labels' : LabelValues) (state' : State) (parts : List Node) (ops : List Op) (value : Value) → All IsFixed parts
    → level_value (map (node_value labels' state') parts) ops ≡ Ok value
    → (labels : LabelValues) (state : State) → level_value (map (node_value labels state) parts) ops ≡ Ok value
fixed_chain labels' state' parts ops value all is labels state =
    ap (λ xs. level_value xs ops) (fixed_values labels labels' state state' parts all) ∙ is

pub fixed_call : (labels' : LabelValues) (state' : State) (func : Func) (parts : List Node) (value : Value) → All IsFixed parts
    → call_value func (map (node_value labels' state') parts) ≡ Ok value
    → (labels : LabelValues) (state : State) → call_value func (map (node_value labels state) parts) ≡ Ok value
fixed_call labels' state' func parts value all is labels state =
    ap (call_value func) (fixed_values labels labels' state state' parts all) ∙ is

-- a chain of arithmetic
pub whole_chain : (parts : List Node) (ops : List Op) → 1 ≤ length parts → list_all is_arithmetic ops ≡ true → All IsWhole parts
    → Always (λ labels state. level_value (map (node_value labels state) parts) ops ≡ as_whole (wholes_result (map stored_of (map (node_value labels state) parts)) ops))
whole_chain [] ops some are all = absurd (omega (arith, some))
whole_chain (part ∷ parts) ops some are all = λ labels state small.
    arithmetic_law (node_value labels state part) (map (node_value labels state) parts) ops (whole_values labels state small (part ∷ parts) all) are

-- a comparison
pub whole_comparison : (parts : List Node) (ops : List Op) (op : Op) → length parts ≡ 2 → ops ≡ op ∷ [] → is_comparison op ≡ true → All IsWhole parts
    → Always (λ labels state. level_value (map (node_value labels state) parts) ops ≡ as_truth (compare_result op (map stored_of (map (node_value labels state) parts))))
whole_comparison [] ops op two only is all = absurd (omega (arith, two))
whole_comparison (a ∷ []) ops op two only is all = absurd (omega (arith, two))
whole_comparison (a ∷ (b ∷ (c ∷ parts))) ops op two only is all = absurd (omega (arith, two))
whole_comparison (a ∷ (b ∷ [])) ops op two only is all = λ labels state small.
    ap (level_value (node_value labels state a ∷ (node_value labels state b ∷ []))) only
    ∙ comparison_law op (node_value labels state a) (node_value labels state b) (whole_valued (node_value labels state a) ((all 0 a (omega arith)).same labels state small))
    (whole_valued (node_value labels state b) ((all 1 b (omega arith)).same labels state small)) is

-- a quotient
pub whole_quotient : (parts : List Node) (ops : List Op) (op : Op) → length parts ≡ 2 → ops ≡ op ∷ [] → op ≡ o.Div → All IsWhole parts
    → Always (λ labels state. level_value (map (node_value labels state) parts) ops ≡ quotient_value (map stored_of (map (node_value labels state) parts)))
whole_quotient [] ops op two only is all = absurd (omega (arith, two))
whole_quotient (a ∷ []) ops op two only is all = absurd (omega (arith, two))
whole_quotient (a ∷ (b ∷ (c ∷ parts))) ops op two only is all = absurd (omega (arith, two))
whole_quotient (a ∷ (b ∷ [])) ops op two only is all = λ labels state small.
    ap (level_value (node_value labels state a ∷ (node_value labels state b ∷ []))) (only ∙ ap (λ (x : Op). x ∷ []) is)
    ∙ quotient_law (node_value labels state a) (node_value labels state b) (whole_valued (node_value labels state a) ((all 0 a (omega arith)).same labels state small))
    (whole_valued (node_value labels state b) ((all 1 b (omega arith)).same labels state small))

-- a chain of `&`, or of `|`
pub truth_chain : (deciding : Bool) (parts : List Node) (ops : List Op) → 1 ≤ length parts → length parts ≡ length ops + 1 → list_all (is_junction deciding) ops ≡ true → All IsTruth parts
    → Always (λ labels state. level_value (map (node_value labels state) parts) ops ≡ as_truth (junction_result deciding (map truth_of (map (node_value labels state) parts))))
truth_chain deciding [] ops some long are all = absurd (omega (arith, some))
truth_chain deciding (part ∷ parts) ops some long are all = λ labels state small.
    junction_law deciding (node_value labels state part) (map (node_value labels state) parts) ops (truth_values labels state small (part ∷ parts) all)
    (length-map parts (node_value labels state) ∙ omega (arith, long)) are

-- the least or the greatest
pub whole_call : (func : Func) (parts : List Node) → 1 ≤ length parts → is_extreme func ≡ true → All IsWhole parts
    → Always (λ labels state. call_value func (map (node_value labels state) parts) ≡ as_whole (extreme_result func (map stored_of (map (node_value labels state) parts))))
whole_call func [] some are all = absurd (omega (arith, some))
whole_call func (part ∷ parts) some are all = λ labels state small.
    extreme_law func (node_value labels state part) (map (node_value labels state) parts) are (whole_values labels state small (part ∷ parts) all)

-- a remainder
pub remainder_call : (func : Func) (parts : List Node) → length parts ≡ 2 → func ≡ f.Mod → All IsWhole parts
    → Always (λ labels state. call_value func (map (node_value labels state) parts) ≡ as_whole (remainder_result (map stored_of (map (node_value labels state) parts))))
remainder_call func [] two is all = absurd (omega (arith, two))
remainder_call func (a ∷ []) two is all = absurd (omega (arith, two))
remainder_call func (a ∷ (b ∷ (c ∷ parts))) two is all = absurd (omega (arith, two))
remainder_call func (a ∷ (b ∷ [])) two is all = λ labels state small.
    ap (λ (g : Func). call_value g (node_value labels state a ∷ (node_value labels state b ∷ []))) is
    ∙ remainder_law (node_value labels state a) (node_value labels state b) (whole_valued (node_value labels state a) ((all 0 a (omega arith)).same labels state small))
    (whole_valued (node_value labels state b) ((all 1 b (omega arith)).same labels state small))

-- plain tests, all of which hold or some of which holds
every_step : (b h : Bool) (rest : TruthResult) → as_truth rest ≡ Ok (v.Bool h) → as_truth (if beq b false then Ok false else rest) ≡ Ok (v.Bool (b && h))
every_step true h rest is = is
every_step false h rest is = refl

tests_every : (state : State) (tests : List Test)
    → as_truth (junction_result false (map truth_of (map (λ test. Ok (v.Bool (test_holds state test))) tests))) ≡ Ok (v.Bool (list_all (test_holds state) tests))
tests_every state [] = refl
tests_every state (test ∷ tests) =
    every_step (test_holds state test) (list_all (test_holds state) tests) (junction_result false (map truth_of (map (λ t. Ok (v.Bool (test_holds state t))) tests)))
    (tests_every state tests)

any_step : (b h : Bool) (rest : TruthResult) → as_truth rest ≡ Ok (v.Bool h) → as_truth (if beq b true then Ok true else rest) ≡ Ok (v.Bool (b || h))
any_step true h rest is = refl
any_step false h rest is = is

tests_any : (state : State) (tests : List Test)
    → as_truth (junction_result true (map truth_of (map (λ test. Ok (v.Bool (test_holds state test))) tests))) ≡ Ok (v.Bool (list_any (test_holds state) tests))
tests_any state [] = refl
tests_any state (test ∷ tests) =
    any_step (test_holds state test) (list_any (test_holds state) tests) (junction_result true (map truth_of (map (λ t. Ok (v.Bool (test_holds state t))) tests)))
    (tests_any state tests)

pub junction_every : (parts : List Node) (tests : List Test)
    → ((labels : LabelValues) (state : State) → map (node_value labels state) parts ≡ map (λ test. Ok (v.Bool (test_holds state test))) tests)
    → (labels : LabelValues) (state : State) → Ok (v.Bool (list_all (test_holds state) tests)) ≡ as_truth (junction_result false (map truth_of (map (node_value labels state) parts)))
junction_every parts tests are labels state = sym (ap (λ xs. as_truth (junction_result false (map truth_of xs))) (are labels state) ∙ tests_every state tests)

pub junction_any : (parts : List Node) (tests : List Test)
    → ((labels : LabelValues) (state : State) → map (node_value labels state) parts ≡ map (λ test. Ok (v.Bool (test_holds state test))) tests)
    → (labels : LabelValues) (state : State) → Ok (v.Bool (list_any (test_holds state) tests)) ≡ as_truth (junction_result true (map truth_of (map (node_value labels state) parts)))
junction_any parts tests are labels state = sym (ap (λ xs. as_truth (junction_result true (map truth_of xs))) (are labels state) ∙ tests_any state tests)
