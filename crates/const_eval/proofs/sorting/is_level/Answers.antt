-- The operators that are written, as those of the tables.
use Rattle.std.proofs.Common.{arith}
use Rattle.std.proofs.lemmas.List.{length-map}
use Rattle.std.proofs.lemmas.Grind.{common_steps}
use Rattle.std.proofs.lemmas.List.Folds.{list_all-map}
use Rattle.chain_model.specs.Sorts.{may_follow}
use Rattle.const_eval.specs.Tables.{op_of}
use Rattle.const_eval.proofs.sorting.is_level.Goals as goal

pub returns-then-others-rest : goal.returns-then-others-rest
returns-then-others-rest c = grind (arith, common_steps, list_all-map (may_follow (op_of c.args.first)) op_of c.args.rest.now, length-map c.args.rest.now op_of)
