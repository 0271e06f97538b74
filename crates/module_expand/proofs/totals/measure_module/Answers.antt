use Rattle.std.proofs.Common.{map, subst, sym}
use Rattle.std.specs.List.{flat_map}
use Rattle.std.proofs.lemmas.List.{map-append}
use Rattle.prism_syntax.specs.Replaced.{replaced}
use Rattle.module_expand.specs.Listed.{variable_exprs, command_exprs, module_exprs}
use Rattle.module_expand.specs.Sizes.{IsSize}
use Rattle.module_expand.proofs.SizeLemmas.{size-append}
use Rattle.module_expand.proofs.totals.measure_module.Goals as goal

-- the variables and then the commands
pub returns-in-Written : goal.returns-in-Written
returns-in-Written c = λ by h.
    let r = c.plus.result in
    let variables = subst (λ vs. IsSize c.measure_variables.result (map (replaced by) (flat_map variable_exprs vs)))
    c.as_slice.ensures (c.measure_variables.ensures by h) in
    let commands = subst (λ cs. IsSize c.measure_commands.result (map (replaced by) (flat_map command_exprs cs)))
    c.as_slice-in-Written.ensures (c.measure_commands.ensures by h) in
    subst (λ m. IsSize r (map (replaced by) (module_exprs m))) (sym c.in-Written.is)
    (subst (IsSize r) (sym (map-append (replaced by) (flat_map variable_exprs c.in-Written.vars)
    (flat_map command_exprs c.in-Written.commands)))
    (size-append c.measure_variables.result c.measure_commands.result r _ _ c.plus.ensures.nodes c.plus.ensures.depth
    variables commands))
