use Rattle.std.proofs.Common.{◌≡◌, take}
use Rattle.std.specs.Prelude.{None}
use Rattle.module_expand.specs.Refusals.{renamed_twice}
use Rattle.prism_names.specs.First.{first_some}
use Rattle.module_expand.proofs.modules.refuse_renamed_twice.Given as goal

-- nothing is told of the modules so far
abbrev pub invariant-loop-item : goal.invariant-loop-item
invariant-loop-item l = first_some renamed_twice (take l.item-index l.modules) ≡ None
