use Rattle.stop_rules.specs.Codes.{given_in}
use Rattle.stop_rules.proofs.CodeLemmas.{success_at_position}
use Rattle.stop_rules.proofs.code.success_at.Goals as goal

pub returns : goal.returns
returns c = success_at_position (given_in c.args.code) c.args.code c.args.position c.args.flip c.requires.within
