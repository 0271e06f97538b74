use Rattle.std.proofs.Common.{◌≡◌, ◌==◌, false, take}
use Rattle.std.specs.List.{list_any}
use Rattle.chain_model.proofs.building.is_among.Given as goal

-- none of the modules so far is the one
abbrev pub invariant-loop-number : goal.invariant-loop-number
invariant-loop-number l = list_any (λ number. number == l.owner) (take l.number-index l.modules) ≡ false
