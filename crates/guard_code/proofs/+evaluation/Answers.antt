-- The value of a node by its kind; and the end of a chain.
use Rattle.std.proofs.Common.{rules, w64, ap₂, ℤ, ◌+ℤ◌, ◌+◌, pos, Bool, List, Ok, refl, sym, ap, ◌∙◌, drop, map}
use Rattle.std.specs.List.{list_all, list_any, count_by}
use Rattle.std.proofs.lemmas.List.{drop_all}
use Rattle.std.proofs.lemmas.Int.{to_z-of_z}
use Rattle.std.specs.Prelude.{if◌then◌else◌}
use Rattle.chain_model.specs.declared.values.Value.TheVariants as v
use Rattle.chain_model.specs.Values.{Valued, level_value, links_value, call_value}
use Rattle.guard_code.specs.declared.nodes.Node.{Node}
use Rattle.guard_code.specs.declared.nodes.Node.TheVariants as n
use Rattle.guard_code.specs.declared.plain_tests.Test.{Test}
use Rattle.guard_code.specs.Tests.{test_holds}
use Rattle.guard_code.specs.Wholes.{TruthResult, WholeResult, truth_of, stored_of, as_truth, as_whole, compare_result, wholes_result, extreme_result, remainder_result, quotient_value, junction_result}
use Rattle.guard_code.specs.Nodes.{node_value}
use Rattle.guard_code.proofs.CaseLemmas.{links_value-end, wholes_done, wholes_past}
use Rattle.guard_code.proofs.WholeLemmas.{truth_as_truth}
use Rattle.guard_code.proofs.NodeLemmas.{seen, value-lit, value-number, value-shifted, value-plain, value-plain_if, value-every, value-any, value-count, value-compare, value-arithmetic, value-extreme, value-remainder, value-quotient, value-junction, value-call, value-level}
use Rattle.guard_code.proofs.+evaluation.Goals as goal

pub chains::level-returns : goal.chains::level-returns
chains::level-returns g t c =
    let rest = map (node_value (g.L.BuiltInLabels.values c.args.labels.now) c.args.state.now) (drop (c.loop-index.index + 1) c.args.parts.now) in
    sym (ap (links_value c.loop-index.joined rest) (drop_all c.loop-index.index c.args.ops.now c.loop-index-test.false)
    ∙ links_value-end c.loop-index.joined rest)
    ∙ c.loop-index.invariant

pub chains::arithmetic-returns : goal.chains::arithmetic-returns
chains::arithmetic-returns g t c = wholes_done _ _ _ _ (drop_all c.loop-index.index c.args.ops.now c.loop-index-test.false) c.loop-index.invariant

pub chains::arithmetic-returns-then-index-parts : goal.chains::arithmetic-returns-then-index-parts
chains::arithmetic-returns-then-index-parts g t c =
    wholes_past (node_value (g.L.BuiltInLabels.values c.args.labels.now) c.args.state.now) c.args.parts.now (c.loop-index.index + 1) _ _ _ c.if-index-parts.true c.loop-index.invariant

pub evaluation::value-returns-in-Lit : goal.evaluation::value-returns-in-Lit
evaluation::value-returns-in-Lit g t c =
    seen (λ (x : Valued). x) (g.L.BuiltInLabels.values c.args.labels.now) c.args.state.now c.args.node.now (n.Lit c.in-Lit.value) _ _ c.in-Lit.is (value-lit (g.L.BuiltInLabels.values c.args.labels.now) c.args.state.now c.in-Lit.value)
    refl

pub evaluation::value-returns-in-Number : goal.evaluation::value-returns-in-Number
evaluation::value-returns-in-Number g t c =
    seen (λ (x : Valued). x) (g.L.BuiltInLabels.values c.args.labels.now) c.args.state.now c.args.node.now (n.Number c.in-Number.x) _ _ c.in-Number.is (value-number (g.L.BuiltInLabels.values c.args.labels.now) c.args.state.now c.in-Number.x)
    (c.as_whole.ensures ∙ ap (λ (k : ℤ). as_whole (Ok k)) (to_z-of_z w64 c.number_in.result (search rules) ∙ c.number_in.ensures))

pub evaluation::value-returns-in-Shifted : goal.evaluation::value-returns-in-Shifted
evaluation::value-returns-in-Shifted g t c =
    seen (λ (x : Valued). x) (g.L.BuiltInLabels.values c.args.labels.now) c.args.state.now c.args.node.now (n.Shifted c.in-Shifted.x c.in-Shifted.c) _ _ c.in-Shifted.is (value-shifted (g.L.BuiltInLabels.values c.args.labels.now) c.args.state.now c.in-Shifted.x c.in-Shifted.c)
    (c.shifted_value.ensures ∙ ap₂ (λ (x y : ℤ). as_whole (Ok (x +ℤ y))) (to_z-of_z w64 c.number_in-in-Shifted.result (search rules) ∙ c.number_in-in-Shifted.ensures) (to_z-of_z w64 c.in-Shifted.c (search rules)))

pub evaluation::value-returns-in-Plain : goal.evaluation::value-returns-in-Plain
evaluation::value-returns-in-Plain g t c =
    seen (λ (x : Valued). x) (g.L.BuiltInLabels.values c.args.labels.now) c.args.state.now c.args.node.now (n.Plain c.in-Plain.test) _ _ c.in-Plain.is (value-plain (g.L.BuiltInLabels.values c.args.labels.now) c.args.state.now c.in-Plain.test)
    (ap (λ (b : Bool). Ok (v.Bool b)) c.test_holds.ensures)

pub evaluation::value-returns-in-PlainIf : goal.evaluation::value-returns-in-PlainIf
evaluation::value-returns-in-PlainIf g t c =
    seen (λ (x : Valued). x) (g.L.BuiltInLabels.values c.args.labels.now) c.args.state.now c.args.node.now (n.PlainIf c.in-PlainIf.test c.in-PlainIf.first c.in-PlainIf.second) _ _ c.in-PlainIf.is (value-plain_if (g.L.BuiltInLabels.values c.args.labels.now) c.args.state.now c.in-PlainIf.test c.in-PlainIf.first c.in-PlainIf.second)
    (c.as_whole-in-PlainIf.ensures
    ∙ ap (λ (k : ℤ). as_whole (Ok k)) (to_z-of_z w64 c.number_by.result (search rules) ∙ c.number_by.ensures
    ∙ ap₂ (λ (x y : ℤ). if test_holds c.args.state.now c.in-PlainIf.test then x else y) (to_z-of_z w64 c.in-PlainIf.first (search rules)) (to_z-of_z w64 c.in-PlainIf.second (search rules))))

pub evaluation::value-returns-in-Every : goal.evaluation::value-returns-in-Every
evaluation::value-returns-in-Every g t c =
    seen (λ (x : Valued). x) (g.L.BuiltInLabels.values c.args.labels.now) c.args.state.now c.args.node.now (n.Every c.in-Every.tests) _ _ c.in-Every.is (value-every (g.L.BuiltInLabels.values c.args.labels.now) c.args.state.now c.in-Every.tests)
    (ap (λ (b : Bool). Ok (v.Bool b)) (c.all_hold.ensures ∙ ap (list_all (test_holds c.args.state.now)) c.as_slice.ensures))

pub evaluation::value-returns-in-Any : goal.evaluation::value-returns-in-Any
evaluation::value-returns-in-Any g t c =
    seen (λ (x : Valued). x) (g.L.BuiltInLabels.values c.args.labels.now) c.args.state.now c.args.node.now (n.Any c.in-Any.tests) _ _ c.in-Any.is (value-any (g.L.BuiltInLabels.values c.args.labels.now) c.args.state.now c.in-Any.tests)
    (ap (λ (b : Bool). Ok (v.Bool b)) (c.some_holds.ensures ∙ ap (list_any (test_holds c.args.state.now)) c.as_slice-in-Any.ensures))

pub evaluation::value-returns-in-Count : goal.evaluation::value-returns-in-Count
evaluation::value-returns-in-Count g t c =
    seen (λ (x : Valued). x) (g.L.BuiltInLabels.values c.args.labels.now) c.args.state.now c.args.node.now (n.Count c.in-Count.tests) _ _ c.in-Count.is (value-count (g.L.BuiltInLabels.values c.args.labels.now) c.args.state.now c.in-Count.tests)
    (c.as_whole-in-Count.ensures ∙ ap (λ (k : ℤ). as_whole (Ok k)) (to_z-of_z w64 c.count_holding.result (search rules) ∙ c.count_holding.ensures ∙ ap (λ (ts : List Test). pos (count_by (test_holds c.args.state.now) ts)) c.as_slice-in-Count.ensures))

pub evaluation::value-returns-in-Compare : goal.evaluation::value-returns-in-Compare
evaluation::value-returns-in-Compare g t c =
    seen (λ (x : Valued). x) (g.L.BuiltInLabels.values c.args.labels.now) c.args.state.now c.args.node.now (n.Compare c.in-Compare.op c.in-Compare.parts) _ _ c.in-Compare.is (value-compare (g.L.BuiltInLabels.values c.args.labels.now) c.args.state.now c.in-Compare.op c.in-Compare.parts)
    (c.as_truth.ensures ∙ ap as_truth (c.compare.ensures ∙ ap (λ (ps : List Node). compare_result c.in-Compare.op (map stored_of (map (node_value (g.L.BuiltInLabels.values c.args.labels.now) c.args.state.now) ps))) c.as_slice-in-Compare.ensures))

pub evaluation::value-returns-in-Arithmetic : goal.evaluation::value-returns-in-Arithmetic
evaluation::value-returns-in-Arithmetic g t c =
    seen (λ (x : Valued). x) (g.L.BuiltInLabels.values c.args.labels.now) c.args.state.now c.args.node.now (n.Arithmetic c.in-Arithmetic.parts c.in-Arithmetic.ops) _ _ c.in-Arithmetic.is (value-arithmetic (g.L.BuiltInLabels.values c.args.labels.now) c.args.state.now c.in-Arithmetic.parts c.in-Arithmetic.ops)
    (c.as_whole-in-Arithmetic.ensures ∙ ap as_whole (c.arithmetic.ensures ∙ ap (λ (ps : List Node). wholes_result (map stored_of (map (node_value (g.L.BuiltInLabels.values c.args.labels.now) c.args.state.now) ps)) c.as_slice-in-Arithmetic-2.result.now) c.as_slice-in-Arithmetic.ensures ∙ ap (wholes_result (map stored_of (map (node_value (g.L.BuiltInLabels.values c.args.labels.now) c.args.state.now) c.in-Arithmetic.parts))) c.as_slice-in-Arithmetic-2.ensures))

pub evaluation::value-returns-in-Extreme : goal.evaluation::value-returns-in-Extreme
evaluation::value-returns-in-Extreme g t c =
    seen (λ (x : Valued). x) (g.L.BuiltInLabels.values c.args.labels.now) c.args.state.now c.args.node.now (n.Extreme c.in-Extreme.func c.in-Extreme.parts) _ _ c.in-Extreme.is (value-extreme (g.L.BuiltInLabels.values c.args.labels.now) c.args.state.now c.in-Extreme.func c.in-Extreme.parts)
    (c.as_whole-in-Extreme.ensures ∙ ap as_whole (c.extreme.ensures ∙ ap (λ (ps : List Node). extreme_result c.in-Extreme.func (map stored_of (map (node_value (g.L.BuiltInLabels.values c.args.labels.now) c.args.state.now) ps))) c.as_slice-in-Extreme.ensures))

pub evaluation::value-returns-in-Remainder : goal.evaluation::value-returns-in-Remainder
evaluation::value-returns-in-Remainder g t c =
    seen (λ (x : Valued). x) (g.L.BuiltInLabels.values c.args.labels.now) c.args.state.now c.args.node.now (n.Remainder c.in-Remainder.parts) _ _ c.in-Remainder.is (value-remainder (g.L.BuiltInLabels.values c.args.labels.now) c.args.state.now c.in-Remainder.parts)
    (c.as_whole-in-Remainder.ensures ∙ ap as_whole (c.remainder.ensures ∙ ap (λ (ps : List Node). remainder_result (map stored_of (map (node_value (g.L.BuiltInLabels.values c.args.labels.now) c.args.state.now) ps))) c.as_slice-in-Remainder.ensures))

pub evaluation::value-returns-in-Quotient : goal.evaluation::value-returns-in-Quotient
evaluation::value-returns-in-Quotient g t c =
    seen (λ (x : Valued). x) (g.L.BuiltInLabels.values c.args.labels.now) c.args.state.now c.args.node.now (n.Quotient c.in-Quotient.parts) _ _ c.in-Quotient.is (value-quotient (g.L.BuiltInLabels.values c.args.labels.now) c.args.state.now c.in-Quotient.parts)
    (c.quotient.ensures ∙ ap (λ (ps : List Node). quotient_value (map stored_of (map (node_value (g.L.BuiltInLabels.values c.args.labels.now) c.args.state.now) ps))) c.as_slice-in-Quotient.ensures)

pub evaluation::value-returns-in-Junction : goal.evaluation::value-returns-in-Junction
evaluation::value-returns-in-Junction g t c =
    seen (λ (x : Valued). x) (g.L.BuiltInLabels.values c.args.labels.now) c.args.state.now c.args.node.now (n.Junction c.in-Junction.deciding c.in-Junction.parts) _ _ c.in-Junction.is (value-junction (g.L.BuiltInLabels.values c.args.labels.now) c.args.state.now c.in-Junction.deciding c.in-Junction.parts)
    (c.as_truth-in-Junction.ensures ∙ ap as_truth (c.junction.ensures ∙ ap (λ (ps : List Node). junction_result c.in-Junction.deciding (map truth_of (map (node_value (g.L.BuiltInLabels.values c.args.labels.now) c.args.state.now) ps))) c.as_slice-in-Junction.ensures))

pub evaluation::value-returns-in-Call : goal.evaluation::value-returns-in-Call
evaluation::value-returns-in-Call g t c =
    seen (λ (x : Valued). x) (g.L.BuiltInLabels.values c.args.labels.now) c.args.state.now c.args.node.now (n.Call c.in-Call.func c.in-Call.parts) _ _ c.in-Call.is (value-call (g.L.BuiltInLabels.values c.args.labels.now) c.args.state.now c.in-Call.func c.in-Call.parts)
    (c.call.ensures ∙ ap (λ (ps : List Node). call_value c.in-Call.func (map (node_value (g.L.BuiltInLabels.values c.args.labels.now) c.args.state.now) ps)) c.as_slice-in-Call.ensures)

pub evaluation::value-returns-in-Level : goal.evaluation::value-returns-in-Level
evaluation::value-returns-in-Level g t c =
    seen (λ (x : Valued). x) (g.L.BuiltInLabels.values c.args.labels.now) c.args.state.now c.args.node.now (n.Level c.in-Level.parts c.in-Level.ops) _ _ c.in-Level.is (value-level (g.L.BuiltInLabels.values c.args.labels.now) c.args.state.now c.in-Level.parts c.in-Level.ops)
    (c.level.ensures ∙ ap (λ (ps : List Node). level_value (map (node_value (g.L.BuiltInLabels.values c.args.labels.now) c.args.state.now) ps) c.as_slice-in-Level-2.result.now) c.as_slice-in-Level.ensures ∙ ap (level_value (map (node_value (g.L.BuiltInLabels.values c.args.labels.now) c.args.state.now) c.in-Level.parts)) c.as_slice-in-Level-2.ensures)

pub fronts::truth_in-returns-in-Lit : goal.fronts::truth_in-returns-in-Lit
fronts::truth_in-returns-in-Lit g t c =
    seen truth_of (g.L.BuiltInLabels.values c.args.labels.now) c.args.state.now c.args.node.now (n.Lit c.in-Lit.value) _ _ c.in-Lit.is (value-lit (g.L.BuiltInLabels.values c.args.labels.now) c.args.state.now c.in-Lit.value)
    (ap (λ (b : Bool). Ok b) c.truth.ensures)

pub fronts::truth_in-returns-in-Plain : goal.fronts::truth_in-returns-in-Plain
fronts::truth_in-returns-in-Plain g t c =
    seen truth_of (g.L.BuiltInLabels.values c.args.labels.now) c.args.state.now c.args.node.now (n.Plain c.in-Plain.test) _ _ c.in-Plain.is (value-plain (g.L.BuiltInLabels.values c.args.labels.now) c.args.state.now c.in-Plain.test)
    (ap (λ (b : Bool). Ok b) c.test_holds.ensures)

pub fronts::truth_in-returns-in-Every : goal.fronts::truth_in-returns-in-Every
fronts::truth_in-returns-in-Every g t c =
    seen truth_of (g.L.BuiltInLabels.values c.args.labels.now) c.args.state.now c.args.node.now (n.Every c.in-Every.tests) _ _ c.in-Every.is (value-every (g.L.BuiltInLabels.values c.args.labels.now) c.args.state.now c.in-Every.tests)
    (ap (λ (b : Bool). Ok b) (c.all_hold.ensures ∙ ap (list_all (test_holds c.args.state.now)) c.as_slice.ensures))

pub fronts::truth_in-returns-in-Any : goal.fronts::truth_in-returns-in-Any
fronts::truth_in-returns-in-Any g t c =
    seen truth_of (g.L.BuiltInLabels.values c.args.labels.now) c.args.state.now c.args.node.now (n.Any c.in-Any.tests) _ _ c.in-Any.is (value-any (g.L.BuiltInLabels.values c.args.labels.now) c.args.state.now c.in-Any.tests)
    (ap (λ (b : Bool). Ok b) (c.some_holds.ensures ∙ ap (list_any (test_holds c.args.state.now)) c.as_slice-in-Any.ensures))

pub fronts::truth_in-returns-in-Compare : goal.fronts::truth_in-returns-in-Compare
fronts::truth_in-returns-in-Compare g t c =
    seen truth_of (g.L.BuiltInLabels.values c.args.labels.now) c.args.state.now c.args.node.now (n.Compare c.in-Compare.op c.in-Compare.parts) _ _ c.in-Compare.is (value-compare (g.L.BuiltInLabels.values c.args.labels.now) c.args.state.now c.in-Compare.op c.in-Compare.parts)
    (c.compare.ensures ∙ ap (λ (ps : List Node). compare_result c.in-Compare.op (map stored_of (map (node_value (g.L.BuiltInLabels.values c.args.labels.now) c.args.state.now) ps))) c.as_slice-in-Compare.ensures ∙ sym (truth_as_truth _))

pub fronts::stored_in-returns-in-Lit : goal.fronts::stored_in-returns-in-Lit
fronts::stored_in-returns-in-Lit g t c =
    seen stored_of (g.L.BuiltInLabels.values c.args.labels.now) c.args.state.now c.args.node.now (n.Lit c.in-Lit.value) _ _ c.in-Lit.is (value-lit (g.L.BuiltInLabels.values c.args.labels.now) c.args.state.now c.in-Lit.value)
    (ap (λ (k : ℤ). Ok k) (to_z-of_z w64 c.stored.result (search rules) ∙ c.stored.ensures))

pub fronts::stored_in-returns-in-Number : goal.fronts::stored_in-returns-in-Number
fronts::stored_in-returns-in-Number g t c =
    seen stored_of (g.L.BuiltInLabels.values c.args.labels.now) c.args.state.now c.args.node.now (n.Number c.in-Number.x) _ _ c.in-Number.is (value-number (g.L.BuiltInLabels.values c.args.labels.now) c.args.state.now c.in-Number.x)
    (c.stored_whole.ensures ∙ ap (λ (k : ℤ). stored_of (as_whole (Ok k))) (to_z-of_z w64 c.number_in.result (search rules) ∙ c.number_in.ensures))

pub fronts::stored_in-returns-in-Shifted : goal.fronts::stored_in-returns-in-Shifted
fronts::stored_in-returns-in-Shifted g t c =
    seen stored_of (g.L.BuiltInLabels.values c.args.labels.now) c.args.state.now c.args.node.now (n.Shifted c.in-Shifted.x c.in-Shifted.c) _ _ c.in-Shifted.is (value-shifted (g.L.BuiltInLabels.values c.args.labels.now) c.args.state.now c.in-Shifted.x c.in-Shifted.c)
    (c.shifted_stored.ensures ∙ ap₂ (λ (x y : ℤ). stored_of (as_whole (Ok (x +ℤ y)))) (to_z-of_z w64 c.number_in-in-Shifted.result (search rules) ∙ c.number_in-in-Shifted.ensures) (to_z-of_z w64 c.in-Shifted.c (search rules)))

pub fronts::stored_in-returns-in-Plain : goal.fronts::stored_in-returns-in-Plain
fronts::stored_in-returns-in-Plain g t c =
    seen stored_of (g.L.BuiltInLabels.values c.args.labels.now) c.args.state.now c.args.node.now (n.Plain c.in-Plain.test) _ _ c.in-Plain.is (value-plain (g.L.BuiltInLabels.values c.args.labels.now) c.args.state.now c.in-Plain.test)
    (c.stored_truth.ensures ∙ ap (λ (b : Bool). stored_of (as_truth (Ok b))) c.test_holds.ensures)

pub fronts::stored_in-returns-in-PlainIf : goal.fronts::stored_in-returns-in-PlainIf
fronts::stored_in-returns-in-PlainIf g t c =
    seen stored_of (g.L.BuiltInLabels.values c.args.labels.now) c.args.state.now c.args.node.now (n.PlainIf c.in-PlainIf.test c.in-PlainIf.first c.in-PlainIf.second) _ _ c.in-PlainIf.is (value-plain_if (g.L.BuiltInLabels.values c.args.labels.now) c.args.state.now c.in-PlainIf.test c.in-PlainIf.first c.in-PlainIf.second)
    (c.stored_whole-in-PlainIf.ensures
    ∙ ap (λ (k : ℤ). stored_of (as_whole (Ok k))) (to_z-of_z w64 c.number_by.result (search rules) ∙ c.number_by.ensures
    ∙ ap₂ (λ (x y : ℤ). if test_holds c.args.state.now c.in-PlainIf.test then x else y) (to_z-of_z w64 c.in-PlainIf.first (search rules)) (to_z-of_z w64 c.in-PlainIf.second (search rules))))

pub fronts::stored_in-returns-in-Count : goal.fronts::stored_in-returns-in-Count
fronts::stored_in-returns-in-Count g t c =
    seen stored_of (g.L.BuiltInLabels.values c.args.labels.now) c.args.state.now c.args.node.now (n.Count c.in-Count.tests) _ _ c.in-Count.is (value-count (g.L.BuiltInLabels.values c.args.labels.now) c.args.state.now c.in-Count.tests)
    (c.stored_whole-in-Count.ensures ∙ ap (λ (k : ℤ). stored_of (as_whole (Ok k))) (to_z-of_z w64 c.count_holding.result (search rules) ∙ c.count_holding.ensures ∙ ap (λ (ts : List Test). pos (count_by (test_holds c.args.state.now) ts)) c.as_slice.ensures))

pub fronts::stored_in-returns-in-Arithmetic : goal.fronts::stored_in-returns-in-Arithmetic
fronts::stored_in-returns-in-Arithmetic g t c =
    seen stored_of (g.L.BuiltInLabels.values c.args.labels.now) c.args.state.now c.args.node.now (n.Arithmetic c.in-Arithmetic.parts c.in-Arithmetic.ops) _ _ c.in-Arithmetic.is (value-arithmetic (g.L.BuiltInLabels.values c.args.labels.now) c.args.state.now c.in-Arithmetic.parts c.in-Arithmetic.ops)
    (c.stored_whole-in-Arithmetic.ensures ∙ ap (λ (r : WholeResult). stored_of (as_whole r)) (c.arithmetic.ensures ∙ ap (λ (ps : List Node). wholes_result (map stored_of (map (node_value (g.L.BuiltInLabels.values c.args.labels.now) c.args.state.now) ps)) c.as_slice-in-Arithmetic-2.result.now) c.as_slice-in-Arithmetic.ensures ∙ ap (wholes_result (map stored_of (map (node_value (g.L.BuiltInLabels.values c.args.labels.now) c.args.state.now) c.in-Arithmetic.parts))) c.as_slice-in-Arithmetic-2.ensures))

pub evaluation::compound_number-returns-in-Every : goal.evaluation::compound_number-returns-in-Every
evaluation::compound_number-returns-in-Every g t c =
    seen stored_of (g.L.BuiltInLabels.values c.args.labels.now) c.args.state.now c.args.node.now (n.Every c.in-Every.tests) _ _ c.in-Every.is (value-every (g.L.BuiltInLabels.values c.args.labels.now) c.args.state.now c.in-Every.tests)
    (c.stored_truth.ensures ∙ ap (λ (b : Bool). stored_of (as_truth (Ok b))) (c.all_hold.ensures ∙ ap (list_all (test_holds c.args.state.now)) c.as_slice.ensures))

pub evaluation::compound_number-returns-in-Any : goal.evaluation::compound_number-returns-in-Any
evaluation::compound_number-returns-in-Any g t c =
    seen stored_of (g.L.BuiltInLabels.values c.args.labels.now) c.args.state.now c.args.node.now (n.Any c.in-Any.tests) _ _ c.in-Any.is (value-any (g.L.BuiltInLabels.values c.args.labels.now) c.args.state.now c.in-Any.tests)
    (c.stored_truth-in-Any.ensures ∙ ap (λ (b : Bool). stored_of (as_truth (Ok b))) (c.some_holds.ensures ∙ ap (list_any (test_holds c.args.state.now)) c.as_slice-in-Any.ensures))

pub evaluation::compound_number-returns-in-Compare : goal.evaluation::compound_number-returns-in-Compare
evaluation::compound_number-returns-in-Compare g t c =
    seen stored_of (g.L.BuiltInLabels.values c.args.labels.now) c.args.state.now c.args.node.now (n.Compare c.in-Compare.op c.in-Compare.parts) _ _ c.in-Compare.is (value-compare (g.L.BuiltInLabels.values c.args.labels.now) c.args.state.now c.in-Compare.op c.in-Compare.parts)
    (c.stored_truth-in-Compare.ensures ∙ ap (λ (r : TruthResult). stored_of (as_truth r)) (c.compare.ensures ∙ ap (λ (ps : List Node). compare_result c.in-Compare.op (map stored_of (map (node_value (g.L.BuiltInLabels.values c.args.labels.now) c.args.state.now) ps))) c.as_slice-in-Compare.ensures))

pub evaluation::compound_number-returns-in-Junction : goal.evaluation::compound_number-returns-in-Junction
evaluation::compound_number-returns-in-Junction g t c =
    seen stored_of (g.L.BuiltInLabels.values c.args.labels.now) c.args.state.now c.args.node.now (n.Junction c.in-Junction.deciding c.in-Junction.parts) _ _ c.in-Junction.is (value-junction (g.L.BuiltInLabels.values c.args.labels.now) c.args.state.now c.in-Junction.deciding c.in-Junction.parts)
    (c.stored_truth-in-Junction.ensures ∙ ap (λ (r : TruthResult). stored_of (as_truth r)) (c.junction.ensures ∙ ap (λ (ps : List Node). junction_result c.in-Junction.deciding (map truth_of (map (node_value (g.L.BuiltInLabels.values c.args.labels.now) c.args.state.now) ps))) c.as_slice-in-Junction.ensures))

pub evaluation::compound_number-returns-in-Extreme : goal.evaluation::compound_number-returns-in-Extreme
evaluation::compound_number-returns-in-Extreme g t c =
    seen stored_of (g.L.BuiltInLabels.values c.args.labels.now) c.args.state.now c.args.node.now (n.Extreme c.in-Extreme.func c.in-Extreme.parts) _ _ c.in-Extreme.is (value-extreme (g.L.BuiltInLabels.values c.args.labels.now) c.args.state.now c.in-Extreme.func c.in-Extreme.parts)
    (c.stored_whole.ensures ∙ ap (λ (r : WholeResult). stored_of (as_whole r)) (c.extreme.ensures ∙ ap (λ (ps : List Node). extreme_result c.in-Extreme.func (map stored_of (map (node_value (g.L.BuiltInLabels.values c.args.labels.now) c.args.state.now) ps))) c.as_slice-in-Extreme.ensures))

pub evaluation::compound_number-returns-in-Remainder : goal.evaluation::compound_number-returns-in-Remainder
evaluation::compound_number-returns-in-Remainder g t c =
    seen stored_of (g.L.BuiltInLabels.values c.args.labels.now) c.args.state.now c.args.node.now (n.Remainder c.in-Remainder.parts) _ _ c.in-Remainder.is (value-remainder (g.L.BuiltInLabels.values c.args.labels.now) c.args.state.now c.in-Remainder.parts)
    (c.stored_whole-in-Remainder.ensures ∙ ap (λ (r : WholeResult). stored_of (as_whole r)) (c.remainder.ensures ∙ ap (λ (ps : List Node). remainder_result (map stored_of (map (node_value (g.L.BuiltInLabels.values c.args.labels.now) c.args.state.now) ps))) c.as_slice-in-Remainder.ensures))

pub evaluation::compound_truth-returns-in-Junction : goal.evaluation::compound_truth-returns-in-Junction
evaluation::compound_truth-returns-in-Junction g t c =
    seen truth_of (g.L.BuiltInLabels.values c.args.labels.now) c.args.state.now c.args.node.now (n.Junction c.in-Junction.deciding c.in-Junction.parts) _ _ c.in-Junction.is (value-junction (g.L.BuiltInLabels.values c.args.labels.now) c.args.state.now c.in-Junction.deciding c.in-Junction.parts)
    (c.junction.ensures ∙ ap (λ (ps : List Node). junction_result c.in-Junction.deciding (map truth_of (map (node_value (g.L.BuiltInLabels.values c.args.labels.now) c.args.state.now) ps))) c.as_slice.ensures ∙ sym (truth_as_truth _))
