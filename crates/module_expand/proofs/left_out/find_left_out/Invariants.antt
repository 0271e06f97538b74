use Rattle.std.proofs.Common.{take}
use Rattle.std.specs.Option.{option_map}
use Rattle.module_expand.proofs.LeftOutLemmas.{IsFirstOfSome}
use Rattle.module_expand.proofs.left_out.find_left_out.Given as goal

-- the first variable that a renaming so far leaves out
abbrev pub invariant-loop-item : goal.invariant-loop-item
invariant-loop-item l = IsFirstOfSome l.modules (take l.item-index l.modules)
    (option_map (λ v. (v.module, v.variable, v.name.now)) l.first)
