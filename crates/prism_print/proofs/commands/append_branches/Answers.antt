use Rattle.std.proofs.Common.{arith}
use Rattle.prism_syntax.specs.declared.tokens.Kind.TheVariants as k
use Rattle.prism_syntax.specs.Spelling.{spelling_of}
use Rattle.prism_print.specs.Layout.{spaced}
use Rattle.prism_print.specs.Printed.{branch}
use Rattle.prism_print.proofs.TextLemmas.{all_left, part_appended, parts_appended}
use Rattle.prism_print.proofs.commands.append_branches.Goals as goal

pub loop-index-init : goal.loop-index-init
loop-index-init c = all_left (spaced k.Plus) branch c.args.branches.now c.args.text.now.items

pub loop-index-preserved : goal.loop-index-preserved
unfolding spelling_of
loop-index-preserved c =
    part_appended (spaced k.Plus) branch c.loop-index.index c.args.branches.now c.index-branches-index.result
    c.loop-index.text.items c.append_between.new.text.items c.append_branch.new.text.items _ c.loop-index-test.true
    c.index-branches-index.is c.in_ok-append_between.ensures c.in_ok-append_branch.ensures c.loop-index.invariant

pub returns : goal.returns
returns c =
    parts_appended (spaced k.Plus) branch c.loop-index.index c.args.branches.now c.loop-index.text.items _
    (omega (arith, c.loop-index-test.false)) c.loop-index.invariant
