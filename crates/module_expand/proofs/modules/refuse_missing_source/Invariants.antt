use Rattle.std.proofs.Common.{◌≡◌, take}
use Rattle.std.specs.Prelude.{None}
use Rattle.module_expand.specs.Refusals.{missing_source}
use Rattle.prism_names.specs.First.{first_some}
use Rattle.module_expand.proofs.modules.refuse_missing_source.Given as goal

-- nothing is told of the modules so far
abbrev pub invariant-loop-item : goal.invariant-loop-item
invariant-loop-item l = first_some (missing_source l.modules) (take l.item-index l.modules) ≡ None
