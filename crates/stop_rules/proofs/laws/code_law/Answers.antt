use Rattle.stop_rules.proofs.BlockLemmas.{is_code, given_in-code, bits_of-code, code_of-narrow}
use Rattle.stop_rules.proofs.laws.code_law.Goals as goal

pub returns-clause-code : goal.returns-clause-code
returns-clause-code c truths count some few within = is_code truths count some few within

pub returns-clause-given : goal.returns-clause-given
returns-clause-given c truths few = given_in-code truths few

pub returns-clause-bits : goal.returns-clause-bits
returns-clause-bits c truths few = bits_of-code truths few

pub returns-clause-narrow : goal.returns-clause-narrow
returns-clause-narrow c truths few = code_of-narrow truths few
