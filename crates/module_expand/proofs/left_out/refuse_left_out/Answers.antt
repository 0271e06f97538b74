use Rattle.std.proofs.Common.{subst}
use Rattle.std.specs.Option.{option_map}
use Rattle.module_expand.specs.LeftOut.{IsFirstOfAll}
use Rattle.module_expand.proofs.MappedLemmas.{of_mapped}
use Rattle.module_expand.proofs.left_out.refuse_left_out.Goals as goal

pub returns-in-None : goal.returns-in-None
returns-in-None c = subst (λ found. IsFirstOfAll c.args.modules.now
    (option_map (λ v. (v.module, v.variable, v.name.now)) found)) c.in-None.is
    (of_mapped c.find_left_out.result c.map_err.result c.in_ok-left_out.field-0
    (λ found. IsFirstOfAll c.args.modules.now (option_map (λ v. (v.module, v.variable, v.name.now)) found)) _
    c.map_err.ensures.cases c.in_ok-left_out.was c.find_left_out.ensures)
