use Rattle.std.proofs.Common.{◌≡◌, take, bytes_eq}
use Rattle.std.specs.Prelude.{None}
use Rattle.indexmap.specs.IndexMap.{get}
use Rattle.module_expand.specs.Refusals.{renamed_to_formula}
use Rattle.prism_names.specs.First.{first_some}
use Rattle.module_expand.proofs.modules.refuse_renamed_to_formula.Given as goal

-- nothing is told of the modules so far
abbrev pub invariant-loop-item : goal.invariant-loop-item
invariant-loop-item l = first_some (renamed_to_formula (get bytes_eq l.formulas)) (take l.item-index l.modules) ≡ None
