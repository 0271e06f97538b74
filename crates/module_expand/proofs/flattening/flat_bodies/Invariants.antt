use Rattle.std.proofs.Common.{◌≡◌, map, take, bytes_eq}
use Rattle.indexmap.specs.IndexMap.{get}
use Rattle.prism_syntax.specs.Replaced.{replaced}
use Rattle.module_expand.specs.Expanded.{with_body}
use Rattle.module_expand.proofs.flattening.flat_bodies.Given as goal

-- the bodies so far
abbrev pub invariant-loop-named : goal.invariant-loop-named
invariant-loop-named l = l.flat ≡ map (with_body (replaced (get bytes_eq l.trees))) (take l.named-index l.all)
