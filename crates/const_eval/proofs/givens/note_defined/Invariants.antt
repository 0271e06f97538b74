use Rattle.std.proofs.Common.{◌≡◌, ◌++◌, map, take}
use Rattle.const_eval.specs.Refusals.{defined_names}
use Rattle.const_eval.proofs.givens.note_defined.Given as goal

-- the names so far
abbrev pub invariant-loop-constant : goal.invariant-loop-constant
invariant-loop-constant l = map (λ name. name.now) l.names.items ≡ map (λ name. name.now) l.initial.names.items ++ defined_names (take l.constant-index l.consts)
