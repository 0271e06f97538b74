use Rattle.module_expand.proofs.left_out.first_without_pair.Goals as goal

pub returns : goal.returns
returns c = c.first_unnamed.ensures c.args.pairs.now c.in_ok-names.ensures
