-- The values of nodes, kind by kind.
use Rattle.std.proofs.Common.{◌≡◌, ℕ, Bool, List, map, Ok, sym, ap, ◌∙◌}
use Rattle.std.specs.Prelude.{ℤ, pos, ◌+ℤ◌, if◌then◌else◌}
use Rattle.std.specs.List.{list_all, list_any, count_by}
use Rattle.chain_model.specs.declared.values.LabelValues.{LabelValues}
use Rattle.chain_model.specs.declared.values.Value.{Value}
use Rattle.chain_model.specs.declared.values.Value.TheVariants as v
use Rattle.chain_model.specs.declared.expressions.Func.{Func}
use Rattle.chain_model.specs.declared.expressions.Op.{Op}
use Rattle.chain_model.specs.States.{State}
use Rattle.chain_model.specs.Values.{Valued, level_value, call_value}
use Rattle.guard_code.specs.declared.nodes.Node.{Node}
use Rattle.guard_code.specs.declared.nodes.Node.TheVariants as n
use Rattle.guard_code.specs.declared.nodes.Node.TheOpen as top
use Rattle.guard_code.specs.declared.nodes.Node.TheFolds.{fold-roll-Node}
use Rattle.guard_code.specs.declared.plain_tests.Test.{Test}
use Rattle.guard_code.specs.Tests.{number_in, test_holds}
use Rattle.guard_code.specs.Wholes.{truth_of, as_truth, as_whole, stored_of, wholes_result, extreme_result, remainder_result, quotient_value, compare_result, junction_result, choice_value}
use Rattle.guard_code.specs.Nodes.{node_step, node_value}

pub value-lit : (l : LabelValues) (s : State) (x : Value) → node_value l s (n.Lit x) ≡ Ok x
value-lit l s x = ap (node_value l s) (sym (n.rolls-Lit x)) ∙ fold-roll-Node Valued (node_step l s) (top.Lit x)

pub value-number : (l : LabelValues) (s : State) (x : ℕ) → node_value l s (n.Number x) ≡ as_whole (Ok (number_in s x))
value-number l s x = ap (node_value l s) (sym (n.rolls-Number x)) ∙ fold-roll-Node Valued (node_step l s) (top.Number x)

pub value-shifted : (l : LabelValues) (s : State) (x : ℕ) (c : ℤ) → node_value l s (n.Shifted x c) ≡ as_whole (Ok (number_in s x +ℤ c))
value-shifted l s x c = ap (node_value l s) (sym (n.rolls-Shifted x c)) ∙ fold-roll-Node Valued (node_step l s) (top.Shifted x c)

pub value-plain : (l : LabelValues) (s : State) (t : Test) → node_value l s (n.Plain t) ≡ Ok (v.Bool (test_holds s t))
value-plain l s t = ap (node_value l s) (sym (n.rolls-Plain t)) ∙ fold-roll-Node Valued (node_step l s) (top.Plain t)

pub value-every : (l : LabelValues) (s : State) (ts : List Test) → node_value l s (n.Every ts) ≡ Ok (v.Bool (list_all (test_holds s) ts))
value-every l s ts = ap (node_value l s) (sym (n.rolls-Every ts)) ∙ fold-roll-Node Valued (node_step l s) (top.Every ts)

pub value-any : (l : LabelValues) (s : State) (ts : List Test) → node_value l s (n.Any ts) ≡ Ok (v.Bool (list_any (test_holds s) ts))
value-any l s ts = ap (node_value l s) (sym (n.rolls-Any ts)) ∙ fold-roll-Node Valued (node_step l s) (top.Any ts)

pub value-count : (l : LabelValues) (s : State) (ts : List Test) → node_value l s (n.Count ts) ≡ as_whole (Ok (pos (count_by (test_holds s) ts)))
value-count l s ts = ap (node_value l s) (sym (n.rolls-Count ts)) ∙ fold-roll-Node Valued (node_step l s) (top.Count ts)

pub value-extreme : (l : LabelValues) (s : State) (func : Func) (ps : List Node)
    → node_value l s (n.Extreme func ps) ≡ as_whole (extreme_result func (map stored_of (map (node_value l s) ps)))
value-extreme l s func ps = ap (node_value l s) (sym (n.rolls-Extreme func ps)) ∙ fold-roll-Node Valued (node_step l s) (top.Extreme func ps)

pub value-arithmetic : (l : LabelValues) (s : State) (ps : List Node) (ops : List Op)
    → node_value l s (n.Arithmetic ps ops) ≡ as_whole (wholes_result (map stored_of (map (node_value l s) ps)) ops)
value-arithmetic l s ps ops = ap (node_value l s) (sym (n.rolls-Arithmetic ps ops)) ∙ fold-roll-Node Valued (node_step l s) (top.Arithmetic ps ops)

pub value-plain_if : (l : LabelValues) (s : State) (t : Test) (a b : ℤ) → node_value l s (n.PlainIf t a b) ≡ as_whole (Ok (if test_holds s t then a else b))
value-plain_if l s t a b = ap (node_value l s) (sym (n.rolls-PlainIf t a b)) ∙ fold-roll-Node Valued (node_step l s) (top.PlainIf t a b)

pub value-remainder : (l : LabelValues) (s : State) (ps : List Node)
    → node_value l s (n.Remainder ps) ≡ as_whole (remainder_result (map stored_of (map (node_value l s) ps)))
value-remainder l s ps = ap (node_value l s) (sym (n.rolls-Remainder ps)) ∙ fold-roll-Node Valued (node_step l s) (top.Remainder ps)

pub value-quotient : (l : LabelValues) (s : State) (ps : List Node) → node_value l s (n.Quotient ps) ≡ quotient_value (map stored_of (map (node_value l s) ps))
value-quotient l s ps = ap (node_value l s) (sym (n.rolls-Quotient ps)) ∙ fold-roll-Node Valued (node_step l s) (top.Quotient ps)

pub value-if : (l : LabelValues) (s : State) (c x y : Node)
    → node_value l s (n.If c x y) ≡ choice_value (truth_of (node_value l s c)) (node_value l s x) (node_value l s y)
value-if l s c x y = ap (node_value l s) (sym (n.rolls-If c x y)) ∙ fold-roll-Node Valued (node_step l s) (top.If c x y)

pub value-compare : (l : LabelValues) (s : State) (op : Op) (ps : List Node)
    → node_value l s (n.Compare op ps) ≡ as_truth (compare_result op (map stored_of (map (node_value l s) ps)))
value-compare l s op ps = ap (node_value l s) (sym (n.rolls-Compare op ps)) ∙ fold-roll-Node Valued (node_step l s) (top.Compare op ps)

pub value-junction : (l : LabelValues) (s : State) (deciding : Bool) (ps : List Node)
    → node_value l s (n.Junction deciding ps) ≡ as_truth (junction_result deciding (map truth_of (map (node_value l s) ps)))
value-junction l s deciding ps = ap (node_value l s) (sym (n.rolls-Junction deciding ps)) ∙ fold-roll-Node Valued (node_step l s) (top.Junction deciding ps)

pub value-call : (l : LabelValues) (s : State) (func : Func) (ps : List Node) → node_value l s (n.Call func ps) ≡ call_value func (map (node_value l s) ps)
value-call l s func ps = ap (node_value l s) (sym (n.rolls-Call func ps)) ∙ fold-roll-Node Valued (node_step l s) (top.Call func ps)

pub value-level : (l : LabelValues) (s : State) (ps : List Node) (ops : List Op) → node_value l s (n.Level ps ops) ≡ level_value (map (node_value l s) ps) ops
value-level l s ps ops = ap (node_value l s) (sym (n.rolls-Level ps ops)) ∙ fold-roll-Node Valued (node_step l s) (top.Level ps ops)

-- what is seen of a node of one kind
pub seen : {A : Type 0} (h : Valued → A) (l : LabelValues) (s : State) (node made : Node) (x : Valued) (r : A)
    → node ≡ made → node_value l s made ≡ x → r ≡ h x → r ≡ h (node_value l s node)
seen h l s node made x r is value given = given ∙ sym (ap (λ (m : Node). h (node_value l s m)) is ∙ ap h value)
