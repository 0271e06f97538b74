use Rattle.std.proofs.Common.{◌≡◌, false, take}
use Rattle.std.specs.List.{list_any}
use Rattle.chain_model.specs.Chain.{is_part}
use Rattle.chain_model.proofs.building.takes_part.Given as goal

-- none of the commands so far is one of the module with the action
abbrev pub invariant-loop-act : goal.invariant-loop-act
invariant-loop-act l = list_any (is_part l.action l.owner) (take l.act-index l.commands) ≡ false
