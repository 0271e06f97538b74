-- The code of each outcome.
use Rattle.std.proofs.Common.{true, false, refl, ap}
use Rattle.stop_rules.specs.Seen.{seen_of}
use Rattle.sampling_run.proofs.CodeLemmas.{code_of_truth, code_of_fault}
use Rattle.sampling_run.proofs.codes.code_of_one.Goals as goal

pub returns-in-True : goal.returns-in-True
returns-in-True c = λ job trace is. code_of_truth job trace true c.args.outcome.now is (ap (seen_of false) c.in-True.is) refl

pub returns-in-False : goal.returns-in-False
returns-in-False c = λ job trace is. code_of_truth job trace false c.args.outcome.now is (ap (seen_of false) c.in-False.is) refl

pub returns-in-Fault : goal.returns-in-Fault
returns-in-Fault c = λ job trace is. code_of_fault job trace c.args.outcome.now is (ap (seen_of false) c.in-Fault.is) refl
