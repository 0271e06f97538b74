use Rattle.std.proofs.Common.{◌≡◌, ◌-◌, ◌^◌, take, map, min}
use Rattle.prism_syntax.specs.ParenDepth.{paren_depth, deepest}
use Rattle.prism_syntax.proofs.paren_depth.+depth.Given as goal

-- the greatest depth so far
abbrev pub invariant-deepest-loop-expr : goal.invariant-deepest-loop-expr
invariant-deepest-loop-expr l = l.most ≡ min (deepest (map paren_depth (take l.expr-index l.exprs))) (2 ^ 64 - 1)
