use Rattle.std.proofs.Common.{arith}
use Rattle.trace_report.specs.Lines.{branch_text}
use Rattle.trace_report.proofs.LineLemmas.{all_pairs}
use Rattle.trace_report.proofs.taken_line.append_branches.Goals as goal

pub returns : goal.returns
returns c =
    all_pairs branch_text c.args.commands.now c.args.branches.now c.loop-place.place c.loop-place.text.items _
    (omega (arith, c.min-place-end.ensures)) c.loop-place.invariant
