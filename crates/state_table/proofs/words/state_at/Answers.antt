-- The state of a number, and none past the last.
use Rattle.std.proofs.Common.{ℕ, ◌*◌, ◌-◌, ◌+◌, sym, ap, ◌∙◌, arith, take, drop}
use Rattle.std.specs.Prelude.{Some}
use Rattle.std.proofs.lemmas.Option.{slice_get_past}
use Rattle.state_table.specs.Table.{states_of}
use Rattle.state_table.proofs.StatesLemmas.{length-states, slice_get-states}
use Rattle.state_table.proofs.words.state_at.Goals as goal

pub returns-then-number-count : goal.returns-then-number-count
returns-then-number-count c =
    ap (λ (n : ℕ). Some (take n (drop (c.args.number * c.args.width) c.args.words.now))) (omega arith)
    ∙ sym (slice_get-states c.args.width c.args.count c.args.words.now c.args.number c.if-number-count.true)

pub returns-else-number-count : goal.returns-else-number-count
returns-else-number-count c =
    let many = length-states c.args.width c.args.count c.args.words.now in
    sym (slice_get_past (states_of c.args.width c.args.count c.args.words.now) c.args.number (omega arith))
