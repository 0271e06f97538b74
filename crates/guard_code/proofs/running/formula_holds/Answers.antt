-- A state formula has what the built-in labels say in the state.
use Rattle.std.proofs.Common.{sym, ap, ◌∙◌}
use Rattle.chain_model.specs.Labels.{value_of}
use Rattle.guard_code.specs.declared.running.Formula.{Formula}
use Rattle.guard_code.specs.Wholes.{truth_of}
use Rattle.guard_code.specs.Codes.{formula_of}
use Rattle.guard_code.proofs.RunLemmas.{formula_value}
use Rattle.guard_code.proofs.running.formula_holds.Goals as goal

pub returns-in-First : goal.returns-in-First
returns-in-First c = λ job is state_is.
    c.truth_in.ensures
    ∙ ap truth_of (formula_value job c.args.code.now c.args.state.now c.args.code.now.first job.path.first is state_is is.first)
    ∙ ap (λ (f : Formula). truth_of (value_of job.chain c.args.state.now (formula_of job.path f))) (sym c.in-First.is)

pub returns-in-Second : goal.returns-in-Second
returns-in-Second c = λ job is state_is.
    c.truth_in-in-Second.ensures
    ∙ ap truth_of (formula_value job c.args.code.now c.args.state.now c.args.code.now.second job.path.second is state_is is.second)
    ∙ ap (λ (f : Formula). truth_of (value_of job.chain c.args.state.now (formula_of job.path f))) (sym c.in-Second.is)
