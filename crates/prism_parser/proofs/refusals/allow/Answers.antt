use Rattle.prism_parser.proofs.StepLemmas.{told_word, told_deep, told_none}
use Rattle.prism_parser.proofs.refusals.allow.Goals as goal

pub returns-in-Some : goal.returns-in-Some
returns-in-Some c = told_word c.args.text c.args.tokens.now c.split_at.result.1.now c.args.start c.in-Some.index c.refuse.result c.split_at.ensures.back c.in-Some.ensures.first c.refuse.ensures

pub returns-in-Some-too_deep : goal.returns-in-Some-too_deep
returns-in-Some-too_deep c = told_deep c.args.text c.args.tokens.now c.split_at.result.1.now c.args.start c.in-Some-too_deep.index c.place_of.result c.split_at.ensures.back c.in-None.ensures.first c.in-Some-too_deep.ensures.first c.place_of.ensures

pub returns-in-None-too_deep : goal.returns-in-None-too_deep
returns-in-None-too_deep c = told_none c.args.text c.args.tokens.now c.split_at.result.1.now c.args.start c.split_at.ensures.back c.in-None.ensures.first c.in-None-too_deep.ensures.first
