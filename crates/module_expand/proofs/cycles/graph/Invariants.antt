use Rattle.std.proofs.Common.{◌≡◌, map, take, bytes_eq}
use Rattle.std.specs.List.{filter_map}
use Rattle.indexmap.specs.IndexMap.{get}
use Rattle.prism_names.specs.Names.{names_of}
use Rattle.module_expand.proofs.cycles.graph.Given as goal

-- the uses so far
abbrev pub invariant-loop-formula : goal.invariant-loop-formula
invariant-loop-formula l = l.graph.items ≡ map (λ f. filter_map (get bytes_eq l.places) (names_of f.body))
    (take l.formula-index l.formulas)
