use Rattle.std.proofs.Common.{sym, ap, ◌∙◌}
use Rattle.std.specs.Prelude.{option_map}
use Rattle.typecheck.proofs.MappedLemmas.{numbered_more, numbered_here}
use Rattle.typed_trees.specs.Numbers.{constant_value}
use Rattle.typecheck.specs.Ranges.{variable_fault}
use Rattle.typecheck.proofs.ranges.first_variable_fault.Goals as goal

pub returns-in-Some : goal.returns-in-Some
returns-in-Some c =
    sym (numbered_here (λ v. v.1.now) c.args.variables.now c.loop-number.number c.index-variables-number.result c.loop-number-test.true c.index-variables-number.is
    (λ v. option_map (λ fault. (v.0, fault)) (variable_fault (constant_value c.args.consts.now) v.1)) c.loop-number.invariant (c.loop-number.number, c.in-Some.fault)
    (ap (option_map (λ fault. (c.loop-number.number, fault))) (sym c.in_ok-fault.ensures ∙ c.in-Some.is)))

pub loop-number-preserved : goal.loop-number-preserved
loop-number-preserved c =
    numbered_more (λ v. v.1.now) c.args.variables.now c.loop-number.number c.index-variables-number.result c.loop-number-test.true c.index-variables-number.is
    (λ v. option_map (λ fault. (v.0, fault)) (variable_fault (constant_value c.args.consts.now) v.1)) c.loop-number.invariant
    ∙ ap (option_map (λ fault. (c.loop-number.number, fault))) (sym c.in_ok-fault.ensures ∙ c.in-None.is)
