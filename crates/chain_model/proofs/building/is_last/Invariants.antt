use Rattle.std.proofs.Common.{◌≡◌, ℕ, ◌<◌, get_or}
use Rattle.chain_model.specs.declared.expressions.Typed.{Typed}
use Rattle.chain_model.proofs.building.is_last.Given as goal

-- none of the later assignments so far is to the variable
abbrev pub invariant-loop-later : goal.invariant-loop-later
invariant-loop-later l = (later : ℕ) (d : ℕ × Typed) → l.index < later → later < l.later → ¬ ((get_or l.sets l.index d).0 ≡ (get_or l.sets later d).0)
