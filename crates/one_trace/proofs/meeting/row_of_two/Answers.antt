-- The two states that a step may lead to have numbers, or aren't kept.
use Rattle.one_trace.proofs.NumberLemmas.{keeps_number, goes_on_further}
use Rattle.one_trace.proofs.meeting.row_of_two.Goals as goal

pub returns-in-None-clause-states : goal.returns-in-None-clause-states
returns-in-None-clause-states c =
    goes_on_further c.args.known.now.table.states c.number_of.new.self.table.states c.number_of-2.new.self.table.states
    c.number_of.ensures.states c.number_of-2.ensures.states

pub returns-in-Some-number_of-clause-row : goal.returns-in-Some-number_of-clause-row
returns-in-Some-number_of-clause-row c = λ job state pair leads. (
  pair,
  record {
    first = c.args.first.now;
    second = c.args.second.now;
    numbered_low = keeps_number c.number_of.new.self.table.states c.number_of-2.new.self.table.states c.in-Some.low c.args.first.now
        c.number_of-2.ensures.states c.in-Some.ensures.number;
    numbered_high = c.in-Some-number_of.ensures.number;
    leads = leads;
  },
)
