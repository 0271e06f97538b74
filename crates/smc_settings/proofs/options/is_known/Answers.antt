-- The chain goes over the names of the table.
use Rattle.std.proofs.Common.{rules, tests, ◌∙◌, sym}
use Rattle.std.specs.Str.{bytes_eq}
use Rattle.std.proofs.lemmas.Iterator.{YieldsList-from_slice}
use Rattle.std.proofs.lemmas.Iterator.Search.{any_from_yields_List}
use Rattle.smc_settings.proofs.CutLemmas.{list_any-map}
use Rattle.smc_settings.proofs.options.is_known.Goals as goal

pub returns : goal.returns
returns c =
    any_from_yields_List (λ known. bytes_eq known.now c.args.name.now) _ _ _ c.any.ensures.ran (YieldsList-from_slice _ c.iter.ensures.rest)
    (λ x b q k. search (rules, tests))
    ∙ sym (list_any-map (λ known. bytes_eq known c.args.name.now) (λ known. known.now) c.args.table.now)
