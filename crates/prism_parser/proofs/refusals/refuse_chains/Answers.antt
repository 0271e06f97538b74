use Rattle.prism_syntax.specs.Tokens.{kinds}
use Rattle.prism_parser.proofs.StepLemmas.{told_arrow, told_found}
use Rattle.prism_parser.proofs.refusals.refuse_chains.Goals as goal

pub returns-in-Some : goal.returns-in-Some
returns-in-Some c = told_arrow c.args.text c.args.tokens.now c.args.start c.in-Some.index (kinds c.args.prefix.now) c.refuse_arrow.result (told_found _ _ (kinds c.args.prefix.now) _ _ c.labels_of.ensures c.in-Ok.ensures.first c.in-Some.is) c.refuse_arrow.ensures

pub returns-in-None : goal.returns-in-None
returns-in-None c = told_found _ _ (kinds c.args.prefix.now) _ _ c.labels_of.ensures c.in-Ok.ensures.first c.in-None.is
