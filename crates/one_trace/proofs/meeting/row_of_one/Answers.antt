-- The state that a step leads to has a number, or isn't kept.
use Rattle.one_trace.proofs.meeting.row_of_one.Goals as goal

pub returns-in-Some-clause-row : goal.returns-in-Some-clause-row
returns-in-Some-clause-row c = λ job state pair leads. (pair, record { next = c.args.first.now; numbered = c.in-Some.ensures.number; leads = leads })
