-- A chain is what its parts make of it.
use Rattle.std.proofs.Common.{List, true, false, subst}
use Rattle.guard_code.specs.declared.nodes.Node.{Node}
use Rattle.guard_code.specs.Joins.{IsCompared, IsCalculated, IsQuotient, IsDecided}
use Rattle.guard_code.proofs.JoinLemmas.{joins_compared, joins_calculated_ok, joins_quotient, joins_decided_ok}
use Rattle.guard_code.proofs.joining.chain_by_shape.Goals as goal

pub returns-in-Some : goal.returns-in-Some
returns-in-Some c =
    joins_compared c.comparison.result c.in-Some.op c.args.parts c.args.ops.now
    (subst (λ (ps : List Node). IsCompared c.in-Some.op ps c.args.ops.now) c.as_slice-view.ensures c.in-Some.ensures) c.comparison.ensures

pub returns-then-all : goal.returns-then-all
returns-then-all c =
    joins_decided_ok c.junction.result false c.args.parts c.args.ops.now
    (subst (λ (ps : List Node). IsDecided false ps c.args.ops.now) c.as_slice-view.ensures (c.is_junction_chain-all.ensures c.if-all.true)) c.junction.ensures

pub returns-then-some : goal.returns-then-some
returns-then-some c =
    joins_decided_ok c.junction-then-some.result true c.args.parts c.args.ops.now
    (subst (λ (ps : List Node). IsDecided true ps c.args.ops.now) c.as_slice-view.ensures (c.is_junction_chain-some.ensures c.if-some.true)) c.junction-then-some.ensures

pub returns-then-calculated : goal.returns-then-calculated
returns-then-calculated c =
    joins_calculated_ok c.calculation.result c.args.parts c.args.ops.now
    (subst (λ (ps : List Node). IsCalculated ps c.args.ops.now) c.as_slice-view.ensures (c.is_arithmetic_chain-calculated.ensures c.if-calculated.true)) c.calculation.ensures

pub returns-then-divided : goal.returns-then-divided
returns-then-divided c =
    joins_quotient c.args.parts c.args.ops.now
    (subst (λ (ps : List Node). IsQuotient ps c.args.ops.now) c.as_slice-view.ensures (c.is_quotient-divided.ensures c.if-divided.true))
