-- An expression of a command has no built-in label; one of the path has what they say in the state.
use Rattle.std.proofs.Common.{sym, ap, ◌∙◌}
use Rattle.std.specs.Prelude.{Some}
use Rattle.chain_model.specs.Values.{Valued}
use Rattle.guard_code.proofs.RunLemmas.{model_value, first_value, second_value}
use Rattle.guard_code.proofs.running.run.Goals as goal

pub returns-in-Some : goal.returns-in-Some
returns-in-Some c = λ job is state_is within.
    model_value job c.args.code.now c.args.state.now c.args.at c.in-Some.node.now is state_is (sym c.in-Some.ensures.value) c.in-Some.ensures.within
    ∙ ap (λ (v : Valued). Some v) (sym c.value.ensures)

pub returns-then-number-len : goal.returns-then-number-len
returns-then-number-len c = λ job is state_is within.
    first_value job c.args.code.now c.args.state.now c.args.at is state_is (c.if-number-len.true ∙ c.len.ensures)
    ∙ ap (λ (v : Valued). Some v) (sym c.value-then-number-len.ensures)

pub returns-else-number-len : goal.returns-else-number-len
returns-else-number-len c = λ job is state_is within.
    second_value job c.args.code.now c.args.state.now c.args.at is state_is within c.in-None.ensures.value (λ same. c.if-number-len.false (same ∙ sym c.len.ensures))
    ∙ ap (λ (v : Valued). Some v) (sym c.value-else-number-len.ensures)
