use Rattle.smc_num.proofs.SpellingLemmas.{read_value, read_other}
use Rattle.smc_num.proofs.fraction.spelling.read.Goals as goal

pub returns-clause-value : goal.returns-clause-value
returns-clause-value c = read_value c.args.text.now c.read_signed.result c.read_signed.ensures

pub returns-clause-other : goal.returns-clause-other
returns-clause-other c = read_other c.args.text.now c.read_signed.result c.read_signed.ensures
