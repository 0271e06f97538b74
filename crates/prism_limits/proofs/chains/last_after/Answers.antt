use Rattle.std.proofs.Common.{◌≡◌, ℕ, List, ◌++◌, Option, Some, ap, sym, ◌∙◌}
use Rattle.std.specs.Option.{option_to_list}
use Rattle.prism_limits.specs.ChainWalk.{innermost, outermost}
use Rattle.prism_limits.proofs.ChainWalkLemmas.{innermost_push, outermost_push}
use Rattle.prism_limits.proofs.chains.last_after.Goals as goal

-- what was popped stood last
popped : (old new : List (Option ℕ)) (top : Option (Option ℕ)) (last : Option ℕ) → old ≡ new ++ option_to_list top → top ≡ Some last → (last ≡ innermost old) × (new ≡ outermost old)
popped old new top last items is =
    let whole = items ∙ ap (λ t. new ++ option_to_list t) is in
    (sym (ap innermost whole ∙ innermost_push new last), sym (ap outermost whole ∙ outermost_push new last))

pub returns-in-Some-clause-last : goal.returns-in-Some-clause-last
returns-in-Some-clause-last c = rw c.in-Close.is (popped _ _ _ _ c.pop.ensures.items c.in-Some.is).0

pub returns-in-Some-clause-around : goal.returns-in-Some-clause-around
returns-in-Some-clause-around c = rw c.in-Close.is (popped _ _ _ _ c.pop.ensures.items c.in-Some.is).1
