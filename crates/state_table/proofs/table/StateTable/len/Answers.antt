-- The count is that of the states.
use Rattle.std.proofs.Common.{List, length, sym, ap, ◌∙◌}
use Rattle.std.specs.Prelude.{ℤ}
use Rattle.state_table.specs.Table.{Table}
use Rattle.state_table.proofs.StatesLemmas.{length-states}
use Rattle.state_table.proofs.table.StateTable.len.Goals as goal

pub returns : goal.returns
returns c =
    sym (length-states c.self.inside.width c.self.inside.count c.self.inside.words.items)
    ∙ ap (λ (table : Table). length table.states) c.self.view_is
