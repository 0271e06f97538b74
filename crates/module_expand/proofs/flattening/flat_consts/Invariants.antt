use Rattle.std.proofs.Common.{◌≡◌, map, take, bytes_eq}
use Rattle.indexmap.specs.IndexMap.{get}
use Rattle.module_expand.specs.Flat.{flat_const}
use Rattle.module_expand.proofs.flattening.flat_consts.Given as goal

-- the constants so far
abbrev pub invariant-loop-constant : goal.invariant-loop-constant
invariant-loop-constant l = l.flat ≡ map (flat_const (get bytes_eq l.trees)) (take l.constant-index l.consts)
