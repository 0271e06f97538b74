use Rattle.std.proofs.Common.{◌≡◌, drop}
use Rattle.std.specs.List.{list_any, enumerate_from}
use Rattle.trace_meaning.specs.Guards.{is_possible}
use Rattle.trace_meaning.proofs.deadlock.some_action.Given as goal

-- none of the actions so far is possible
abbrev pub invariant-loop-number : goal.invariant-loop-number
invariant-loop-number l =
    list_any (is_possible l.state l.chain.commands) (enumerate_from l.number (drop l.number l.chain.actions))
    ≡ list_any (is_possible l.state l.chain.commands) (enumerate_from 0 l.chain.actions)
