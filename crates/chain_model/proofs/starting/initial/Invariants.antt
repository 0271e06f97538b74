use Rattle.std.proofs.Common.{◌≡◌, map, take}
use Rattle.chain_model.proofs.starting.initial.Given as goal

-- the values of the variables so far
abbrev pub invariant-loop-var : goal.invariant-loop-var
invariant-loop-var l = l.state.items ≡ map (λ var. var.init) (take l.var-index l.vars)
