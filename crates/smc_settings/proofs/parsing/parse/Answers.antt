-- What the parse says of words that give options of the table.
use Rattle.smc_settings.proofs.MatchLemmas.{found_value, error_kind, is_free}
use Rattle.smc_settings.proofs.DistinctLemmas.{are_all_distinct}
use Rattle.smc_settings.proofs.parsing.parse.Goals as goal

pub returns-in-Ok-clause-distinct : goal.returns-in-Ok-clause-distinct
returns-in-Ok-clause-distinct c options gives =
    are_all_distinct _ _ _ options c.requires.table c.in_ok-command.ensures (c.in-Ok.ensures.kinds (is_free _ _ c.requires.table c.in_ok-command.ensures)) gives

pub returns-in-Ok-clause-values : goal.returns-in-Ok-clause-values
returns-in-Ok-clause-values c options gives name =
    found_value _ _ _ c.in-Ok.matches options name c.requires.table c.in_ok-command.ensures c.in-Ok.ensures.matches gives
    (are_all_distinct _ _ _ options c.requires.table c.in_ok-command.ensures (c.in-Ok.ensures.kinds (is_free _ _ c.requires.table c.in_ok-command.ensures)) gives)

pub returns-in-Err-clause-err : goal.returns-in-Err-clause-err
returns-in-Err-clause-err c options gives new =
    error_kind _ _ _ c.in-Err.error options c.requires.table c.in_ok-command.ensures (c.in-Err.ensures.kinds (is_free _ _ c.requires.table c.in_ok-command.ensures)) gives new
