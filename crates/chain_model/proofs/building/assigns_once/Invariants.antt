use Rattle.std.proofs.Common.{◌≡◌, ℕ, ◌<◌, length, get_or}
use Rattle.chain_model.specs.declared.expressions.Typed.{Typed}
use Rattle.chain_model.proofs.building.assigns_once.Given as goal

-- the variable of none of the assignments so far is assigned by a later one
abbrev pub invariant-loop-index : goal.invariant-loop-index
invariant-loop-index l = (i j : ℕ) (d : ℕ × Typed) → i < l.index → i < j → j < length l.sets → ¬ ((get_or l.sets i d).0 ≡ (get_or l.sets j d).0)
