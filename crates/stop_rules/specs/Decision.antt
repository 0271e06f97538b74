-- What the counts of successes and failures decide, and the end of a run that a trace brings.
use Rattle.std.specs.Prelude.{◌==◌, ℕ, ◌+◌, Bool, true, false, not, List, Option, Some, None, option_map, count_by}
use Rattle.sampling_plan.specs.Decision.{class_of as plan_class}
use Rattle.wald_test.specs.Decision.{class_of as wald_class}
use Rattle.sampling_plan.specs.declared.class.Class.{Class}
use Rattle.sampling_plan.specs.declared.class.Class.TheVariants as class
use Rattle.stop_rules.specs.declared.end.Cause.{Cause}
use Rattle.stop_rules.specs.declared.end.Cause.TheVariants as cause
use Rattle.stop_rules.specs.declared.end.End.{End}
use Rattle.stop_rules.specs.declared.goal.Rule.{Rule}
use Rattle.stop_rules.specs.declared.goal.Rule.TheVariants as rule
use Rattle.stop_rules.specs.declared.goal.Goal.{Goal}

-- how many traces succeeded, and how many failed
pub record Counts : Type 0 where
  pub d : ℕ
  pub f : ℕ

-- the class of the counts under a rule
abbrev pub class_of : Rule → ℕ → ℕ → Class
class_of (rule.Wald wald) d f = wald_class wald d f
class_of (rule.Plan plan) d f = plan_class plan d f

-- the cause of an end that a class is
abbrev pub cause_of : Class → Option Cause
cause_of class.Accept = Some cause.Accept
cause_of class.Reject = Some cause.Reject
cause_of class.Close = Some cause.Close
cause_of class.Go = None

-- a cause, or else the limit where it is reached
abbrev pub or_limit : Option Cause → Bool → Option Cause
or_limit (Some found) reached = Some found
or_limit None true = Some cause.Limit
or_limit None false = None

-- why a run ends at these counts, if it does: they decide, or else as many traces were admitted as the limit allows
abbrev pub cause_at : Goal → Counts → Option Cause
cause_at goal counts = or_limit (cause_of (class_of goal.rule counts.d counts.f)) ((counts.d + counts.f) == goal.limit)

-- the counts with one more trace, which succeeded or failed
abbrev pub counted : Bool → Counts → Counts
counted true counts = record { d = counts.d + 1; f = counts.f }
counted false counts = record { d = counts.d; f = counts.f + 1 }

-- the counts after these traces: as many more successes as are true, and as many more failures as are false
unfoldable pub counts_after : Counts → List Bool → Counts
counts_after counts truths = record { d = counts.d + count_by (λ truth. truth) truths; f = counts.f + count_by not truths }

-- the end with this cause and these counts
abbrev pub end_at : Counts → Cause → End
end_at counts cause = record { cause = cause; d = counts.d; f = counts.f }

-- the end that one more trace brings, if any: a fault ends the run and is counted in neither count; otherwise the
-- counts with the trace may end it
abbrev pub end_with : Goal → Counts → Option Bool → Option End
end_with goal counts None = Some (end_at counts cause.Fault)
end_with goal counts (Some truth) = option_map (end_at (counted truth counts)) (cause_at goal (counted truth counts))
