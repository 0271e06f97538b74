-- What an answer of a call tells, where it may run out of memory: it comes exactly where a fact holds.
use Rattle.std.specs.Prelude.{◌≡◌, ◌⊎◌, Result, Ok, Err}

-- the answer is a fault of this kind
abbrev pub IsFaultOf : {T Fault : Type 0} → (Fault → Type 0) → Result T Fault → Type 0
IsFaultOf Is (Ok value) = ⊥
IsFaultOf Is (Err fault) = Is fault

-- the answer is this one exactly where the fact holds, unless memory ran out
pub record ComesWhere {T Fault : Type 0} (IsOutOfMemory : Fault → Type 0) (answer this : Result T Fault) (Fact : Type 0) : Type 0 where
  pub only : answer ≡ this → Fact
  pub always : Fact → (answer ≡ this) ⊎ IsFaultOf IsOutOfMemory answer
