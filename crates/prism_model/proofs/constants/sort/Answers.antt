use Rattle.std.proofs.Common.{ap}
use Rattle.prism_model.proofs.TokenLemmas.{first_of}
use Rattle.prism_model.specs.Parts.{sort_of}
use Rattle.prism_model.proofs.SortLemmas.{no_sort_at_end, sort_found, no_sort, no_word}
use Rattle.prism_model.proofs.constants.sort.Goals as goal

pub returns-in-empty : goal.returns-in-empty
returns-in-empty c = no_sort_at_end c.args.tokens.now c.in-empty.len_below

pub returns-in-Int : goal.returns-in-Int
returns-in-Int c =
    sort_found c.args.tokens.now _ c.first-item.result _
    (first_of c.args.tokens.now c.first-item.result c.in-len1-up.len_at_least c.first-item.is) (ap sort_of c.in-Int.is)

pub returns-in-Double : goal.returns-in-Double
returns-in-Double c =
    sort_found c.args.tokens.now _ c.first-item.result _
    (first_of c.args.tokens.now c.first-item.result c.in-len1-up.len_at_least c.first-item.is) (ap sort_of c.in-Double.is)

pub returns-in-Bool : goal.returns-in-Bool
returns-in-Bool c =
    sort_found c.args.tokens.now _ c.first-item.result _
    (first_of c.args.tokens.now c.first-item.result c.in-len1-up.len_at_least c.first-item.is) (ap sort_of c.in-Bool.is)

pub returns-in_default : goal.returns-in_default
returns-in_default c =
    no_sort c.args.tokens.now _ c.first-item.result
    (first_of c.args.tokens.now c.first-item.result c.in-len1-up.len_at_least c.first-item.is) (no_word _ c.in_default.not-Int c.in_default.not-Double c.in_default.not-Bool)
