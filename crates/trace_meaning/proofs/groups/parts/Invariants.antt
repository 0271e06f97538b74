use Rattle.std.proofs.Common.{◌≡◌, drop, ◌++◌}
use Rattle.chain_model.specs.Choices.{parts_of}
use Rattle.trace_meaning.proofs.groups.parts.Given as goal

abbrev pub invariant-loop-owner : goal.invariant-loop-owner
invariant-loop-owner l = l.lists ++ parts_of l.acts l.enabled l.fn.action (drop l.owner-index l.modules) ≡ parts_of l.acts l.enabled l.fn.action l.modules
