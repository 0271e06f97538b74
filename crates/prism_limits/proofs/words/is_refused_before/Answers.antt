use Rattle.std.proofs.Common.{arith}
use Rattle.std.proofs.lemmas.Grind.{common_steps}
use Rattle.prism_limits.proofs.WordLemmas.{refuses_by}
use Rattle.prism_limits.proofs.words.is_refused_before.Goals as goal

pub returns-then-refuses_word : goal.returns-then-refuses_word
returns-then-refuses_word c = refuses_by c.args.text _ _ _ (grind (arith, common_steps))

pub returns-then-is_left_out : goal.returns-then-is_left_out
returns-then-is_left_out c = refuses_by c.args.text _ _ _ (grind (arith, common_steps))

pub returns-else-is_left_out : goal.returns-else-is_left_out
returns-else-is_left_out c = refuses_by c.args.text _ _ _ (grind (arith, common_steps))
