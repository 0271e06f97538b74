use Rattle.std.proofs.Common.{◌≡◌, map, take, bytes_eq}
use Rattle.indexmap.specs.IndexMap.{get}
use Rattle.prism_syntax.specs.Replaced.{replaced}
use Rattle.prism_syntax.proofs.+replace.Given as goal

-- the trees so far
abbrev pub invariant-replacing::replace_all-loop-expr : goal.invariant-replacing::replace_all-loop-expr
invariant-replacing::replace_all-loop-expr l = l.trees ≡ map (replaced (get bytes_eq l.table)) (take l.expr-index l.exprs)
