-- What the last of some pairs says, where those before it settle nothing.
use Rattle.std.specs.Prelude.{ℕ, ◌+◌, ◌==◌, ◌||◌, nat_lt, Bool, true, false, not, if◌then◌else◌}
use Rattle.chain_model.specs.declared.job.PathKind.{PathKind}
use Rattle.chain_model.specs.declared.job.PathKind.TheVariants.{Next, Until, Finally, Globally}
use Rattle.chain_model.specs.Paths.{horizon_of}
use Rattle.path_monitor.specs.declared.step.Step.{Step}
use Rattle.path_monitor.specs.declared.step.Step.TheVariants.{True, False, More}

-- a truth value as what is said
abbrev pub settled : Bool → Step
settled true = True
settled false = False

-- this truth value, where the pair is the last that counts
abbrev pub last : Bool → Bool → Step
last is_last truth = if is_last then settled truth else More

-- what the pair of this number says
abbrev pub verdict_of : PathKind → ℕ → Bool → Bool → Step
verdict_of Next number first second = last (not (number == 0)) second
verdict_of (Finally k) number first second = if second then True else last (number == k) false
verdict_of (Globally k) number first second = if second then last (number == k) true else False
verdict_of (Until k) number first second = if second then True else last (number == k || not first) false

-- the number of the next pair, up to the last that counts
abbrev pub next_number : PathKind → ℕ → ℕ
next_number kind number = if nat_lt number (horizon_of kind) then number + 1 else number
