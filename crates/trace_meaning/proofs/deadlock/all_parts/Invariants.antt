use Rattle.std.proofs.Common.{◌≡◌, drop}
use Rattle.std.specs.List.{list_all}
use Rattle.chain_model.specs.Chain.{is_part}
use Rattle.trace_meaning.specs.Guards.{some_enabled}
use Rattle.trace_meaning.proofs.deadlock.all_parts.Given as goal

-- each module so far has an enabled command
abbrev pub invariant-loop-owner : goal.invariant-loop-owner
invariant-loop-owner l =
    list_all (λ owner. some_enabled (is_part l.fn.action owner) l.state l.acts) (drop l.owner-index l.modules)
    ≡ list_all (λ owner. some_enabled (is_part l.fn.action owner) l.state l.acts) l.modules
