use Rattle.std.proofs.Common.{◌≡◌, ◌++◌, map, drop}
use Rattle.prism_syntax.specs.declared.tokens.Kind.TheVariants as k
use Rattle.prism_print.specs.Pieces.{text_of}
use Rattle.prism_print.specs.Layout.{spaced, separated}
use Rattle.prism_print.specs.Printed.{branch}
use Rattle.prism_print.proofs.TextLemmas.{left_of_parts}
use Rattle.prism_print.proofs.commands.append_branches.Given as goal

-- what is appended, and the branches that are left, make the whole
abbrev pub invariant-loop-index : goal.invariant-loop-index
invariant-loop-index l =
    l.text.items ++ left_of_parts (spaced k.Plus) branch l.index (drop l.index l.branches)
    ≡ l.initial.text.items ++ text_of (separated (spaced k.Plus) (map branch l.branches))
