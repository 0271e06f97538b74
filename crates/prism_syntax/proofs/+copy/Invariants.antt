use Rattle.std.proofs.Common.{◌≡◌, take}
use Rattle.prism_syntax.proofs.+copy.Given as goal

-- the trees so far
abbrev pub invariant-copying::copy_all-loop-expr : goal.invariant-copying::copy_all-loop-expr
invariant-copying::copy_all-loop-expr l = l.trees ≡ take l.expr-index l.exprs
