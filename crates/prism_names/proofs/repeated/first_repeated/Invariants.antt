use Rattle.std.proofs.Common.{◌≡◌, take, map}
use Rattle.std.specs.Prelude.{None}
use Rattle.prism_names.specs.First.{first_repeated}
use Rattle.prism_names.proofs.repeated.first_repeated.Given as goal

-- none of the names so far is repeated
abbrev pub invariant-loop-name : goal.invariant-loop-name
invariant-loop-name l = first_repeated (map (λ name. name.now) l.all) (map (λ name. name.now) (take l.name-index l.names)) ≡ None
