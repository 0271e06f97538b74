-- Results in a row: the first fault is the fault of the whole.
use Rattle.std.specs.Prelude.{Bool, true, false, List, [], ◌∷◌, Result, Ok, Err}
use Rattle.chain_model.specs.declared.outcome.TraceFault.{TraceFault}

-- what comes of a value, where there is one
infixl 10 ◌>>=◌
abbrev pub ◌>>=◌ : {A B : Type 0} → Result A TraceFault → (A → Result B TraceFault) → Result B TraceFault
(Ok x) >>= f = f x
(Err fault) >>= f = Err fault

-- what comes after a test that finds no fault
infixl 10 ◌>>◌
abbrev pub ◌>>◌ : {B : Type 0} → Result (Unit {0}) TraceFault → Result B TraceFault → Result B TraceFault
(Ok _) >> result = result
(Err fault) >> result = Err fault

-- a fault, where there is a reason for it
abbrev pub refuse_if : Bool → TraceFault → Result (Unit {0}) TraceFault
refuse_if true fault = Err fault
refuse_if false fault = Ok tt

-- what f gives of each item, in order
abbrev pub each : {A B : Type 0} → (A → Result B TraceFault) → List A → Result (List B) TraceFault
each f [] = Ok []
each f (x ∷ xs) = do
  y ← f x
  ys ← each f xs
  Ok (y ∷ ys)
