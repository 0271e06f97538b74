use Rattle.wald_test.proofs.LeastLemmas.{least_terms-first, least_terms-second, least_terms-least}
use Rattle.wald_test.proofs.laws.least_terms_law.Goals as goal

pub returns-clause-first : goal.returns-clause-first
returns-clause-first c = least_terms-first

pub returns-clause-second : goal.returns-clause-second
returns-clause-second c = least_terms-second

pub returns-clause-least : goal.returns-clause-least
returns-clause-least c = least_terms-least
