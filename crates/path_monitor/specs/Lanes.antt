-- Monitors of eight traces side by side: bit l of each byte is that of lane l.
use Rattle.std.specs.Prelude.{◌≡◌, ℕ, ◌/◌, ◌%◌, ◌^◌, ◌&&◌, Bool, true, false, if◌then◌else◌}
use Rattle.chain_model.specs.declared.job.PathKind.{PathKind}
use Rattle.path_monitor.specs.declared.step.Step.{Step}
use Rattle.path_monitor.specs.declared.step.Step.TheVariants.{True, False, More}
use Rattle.path_monitor.specs.Verdicts.{verdict_of}

-- the step settles the formula as true, or as false, or not
abbrev pub says_true : Step → Bool
says_true True = true
says_true _ = false

abbrev pub says_false : Step → Bool
says_false False = true
says_false _ = false

abbrev pub says_more : Step → Bool
says_more More = true
says_more _ = false

-- bit l of a byte is this truth value
abbrev pub HasBit : ℕ → ℕ → Bool → Type 0
HasBit l byte truth = byte / 2 ^ l % 2 ≡ (if truth then 1 else 0)

-- the bytes have in bit l what the verdict on lane l's pair is
abbrev pub AreVerdicts : PathKind → ℕ → ℕ → ℕ → ℕ → ℕ → ℕ → Type 0
AreVerdicts kind number l first second holds fails = (p q : Bool) → HasBit l first p → HasBit l second q
    → HasBit l holds (says_true (verdict_of kind number p q)) × HasBit l fails (says_false (verdict_of kind number p q))

-- the same for a lane that is left, and 0 in both bytes for another one; a lane is left on where its pairs settle nothing
abbrev pub IsSeen : PathKind → ℕ → ℕ → ℕ → ℕ → ℕ → ℕ → ℕ → ℕ → Type 0
IsSeen kind number l first second left left' holds fails = (p q t : Bool) → HasBit l first p → HasBit l second q → HasBit l left t
    → HasBit l holds (says_true (verdict_of kind number p q) && t) × HasBit l fails (says_false (verdict_of kind number p q) && t)
    × HasBit l left' (t && says_more (verdict_of kind number p q))
