use Rattle.std.proofs.Common.{◌≡◌, drop, map}
use Rattle.typed_trees.specs.Scopes.{tree_in}
use Rattle.typecheck.specs.Parts.{all_made, made_label}
use Rattle.typecheck.proofs.MakingLemmas.{made_with}
use Rattle.typecheck.proofs.labels.made_labels.Given as goal

-- what is made so far, with what is left to make, is what is made of all
abbrev pub invariant-loop-label : goal.invariant-loop-label
invariant-loop-label l = made_with l.made (map (made_label (tree_in l.scope)) (drop l.label-index l.labels)) ≡ all_made (map (made_label (tree_in l.scope)) l.labels)
