-- An expression's node by the nodes of its parts.
use Rattle.std.proofs.Common.{List, sym, ◌∙◌, subst}
use Rattle.std.specs.Prelude.{IfOk}
use Rattle.chain_model.specs.declared.expressions.Op.{Op}
use Rattle.guard_code.specs.Means.{Means, AllMean, Joins}
use Rattle.guard_code.proofs.FormLemmas.{value-var, value-not, value-minus, value-call, value-level, value-if}
use Rattle.guard_code.proofs.CompileLemmas.{all_mean_more, means_not, means_minus, means_level, means_call, means_if}
use Rattle.guard_code.proofs.compiling.+compiling.Goals as goal

pub nodes_of-loop-expr-preserved : goal.nodes_of-loop-expr-preserved
nodes_of-loop-expr-preserved t c =
    all_mean_more c.loop-expr.nodes c.push.new.self c.args.exprs.now c.loop-expr.expr-index c.expr-item.result c.in_ok-node.node c.loop-expr-test.true c.expr-item.is
    c.in_ok-node.ensures c.in_ok-push.ensures.ok c.loop-expr.invariant

pub node_of-returns-in-Var : goal.node_of-returns-in-Var
node_of-returns-in-Var t c = record {
  same = λ labels state small. c.variable.ensures labels state ∙ sym (value-var c.args.expr.now c.in-Var.number c.in-Var.is labels state);
}

pub node_of-returns-in_ok-arguments-in-Call : goal.node_of-returns-in_ok-arguments-in-Call
node_of-returns-in_ok-arguments-in-Call t c =
    means_call c.call_node.result c.in_ok-arguments-in-Call.arguments c.in-Call.func c.in-Call.parts c.args.expr.now c.call_node.ensures
    (subst (AllMean c.in_ok-arguments-in-Call.arguments) c.as_slice.ensures c.in_ok-arguments-in-Call.ensures)
    (value-call c.args.expr.now c.in-Call.func c.in-Call.parts c.in-Call.is)

pub node_of-returns-in_ok-denied-in-Not : goal.node_of-returns-in_ok-denied-in-Not
node_of-returns-in_ok-denied-in-Not t c =
    means_not c.negation_node.result c.in_ok-denied-in-Not.denied c.in-Not.part c.args.expr.now c.negation_node.ensures
    (subst (Means c.in_ok-denied-in-Not.denied) c.get.ensures c.in_ok-denied-in-Not.ensures) (value-not c.args.expr.now c.in-Not.part c.in-Not.is)

pub node_of-returns-in_ok-number-in-Minus : goal.node_of-returns-in_ok-number-in-Minus
node_of-returns-in_ok-number-in-Minus t c =
    means_minus c.minus_node.result c.in_ok-number-in-Minus.number c.in-Minus.part c.args.expr.now c.minus_node.ensures
    (subst (Means c.in_ok-number-in-Minus.number) c.get-in-Minus.ensures c.in_ok-number-in-Minus.ensures) (value-minus c.args.expr.now c.in-Minus.part c.in-Minus.is)

pub node_of-returns-in_ok-operands-in-Level : goal.node_of-returns-in_ok-operands-in-Level
node_of-returns-in_ok-operands-in-Level t c =
    means_level c.chain_node.result c.in_ok-operands-in-Level.operands c.in-Level.parts c.in-Level.ops c.args.expr.now
    (subst (λ (os : List Op). IfOk c.chain_node.result (λ node. Joins node c.in_ok-operands-in-Level.operands os)) c.as_slice-in-Level-2.ensures c.chain_node.ensures)
    (subst (AllMean c.in_ok-operands-in-Level.operands) c.as_slice-in-Level.ensures c.in_ok-operands-in-Level.ensures)
    (value-level c.args.expr.now c.in-Level.parts c.in-Level.ops c.in-Level.is)

pub node_of-returns-in_ok-second-in-If : goal.node_of-returns-in_ok-second-in-If
node_of-returns-in_ok-second-in-If t c =
    means_if c.conditional.result c.in_ok-condition-in-If.condition c.in_ok-first-in-If.first c.in_ok-second-in-If.second c.in-If.condition c.in-If.first c.in-If.second c.args.expr.now
    c.conditional.ensures
    (subst (Means c.in_ok-condition-in-If.condition) c.get-in-If.ensures c.in_ok-condition-in-If.ensures)
    (subst (Means c.in_ok-first-in-If.first) c.get-in-If-2.ensures c.in_ok-first-in-If.ensures)
    (subst (Means c.in_ok-second-in-If.second) c.get-in-If-3.ensures c.in_ok-second-in-If.ensures)
    (value-if c.args.expr.now c.in-If.condition c.in-If.first c.in-If.second c.in-If.is)
