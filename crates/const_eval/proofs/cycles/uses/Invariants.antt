use Rattle.std.proofs.Common.{◌≡◌, map, take}
use Rattle.std.specs.List.{filter_map}
use Rattle.const_eval.specs.Constants.{definition_names}
use Rattle.const_eval.proofs.ResultLemmas.{place_of}
use Rattle.const_eval.proofs.cycles.uses.Given as goal

-- the uses of the constants so far
abbrev pub invariant-loop-constant : goal.invariant-loop-constant
invariant-loop-constant l = l.graph.items ≡ map (λ c. filter_map (place_of l.consts) (definition_names c)) (take l.constant-index l.consts)
