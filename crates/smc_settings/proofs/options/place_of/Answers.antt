-- The chain goes over the bytes.
use Rattle.std.proofs.Common.{rules, tests, ◌==◌}
use Rattle.std.proofs.lemmas.Iterator.{YieldsList-from_slice}
use Rattle.std.proofs.lemmas.Iterator.Search.{position_from_yields_List}
use Rattle.smc_settings.proofs.options.place_of.Goals as goal

pub returns : goal.returns
returns c =
    position_from_yields_List (λ x. x == c.args.byte) _ _ _ c.position.ensures.ran (YieldsList-from_slice _ c.iter.ensures.rest) (λ x b q k. search (rules, tests))
