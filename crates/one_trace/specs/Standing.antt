-- A trace that stays in a state for ever, and so has one pair again and again.
use Rattle.std.specs.Prelude.{ℕ, suc, Bool, true, false, List, ◌++◌, replicate}
use Rattle.chain_model.specs.declared.job.PathKind.{PathKind}
use Rattle.chain_model.specs.declared.outcome.Outcome.{Outcome}
use Rattle.chain_model.specs.declared.outcome.Outcome.TheVariants.{True, False, Fault}
use Rattle.chain_model.specs.Trace.{Pair}
use Rattle.chain_model.specs.Settling.{Settles}

-- pairs and a further one, once or several times, settle the path formula with this truth value, and not before the last
pub record SettlesAgain (kind : PathKind) (pairs : List Pair) (pair : Pair) (truth : Bool) : Type 0 where
  pub more : ℕ
  pub settled : Settles kind (pairs ++ replicate (suc more) pair) truth
  pub before : (t : Bool) → ¬ Settles kind (pairs ++ replicate more pair) t

-- an outcome is the truth value with which pairs and a further one, once or several times, settle the path formula
abbrev pub StandsFor : PathKind → List Pair → Pair → Outcome → Type 0
StandsFor kind pairs pair True = SettlesAgain kind pairs pair true
StandsFor kind pairs pair False = SettlesAgain kind pairs pair false
StandsFor kind pairs pair (Fault step fault) = ⊥
