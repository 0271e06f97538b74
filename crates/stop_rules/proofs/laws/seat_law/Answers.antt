use Rattle.std.proofs.lemmas.List.Sums.{fold-append}
use Rattle.stop_rules.specs.Seats.{seat_after}
use Rattle.stop_rules.proofs.laws.seat_law.Goals as goal

pub returns : goal.returns
returns c seat first more = fold-append seat_after seat first more
