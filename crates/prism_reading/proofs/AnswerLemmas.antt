-- Answers that are passed on.
use Rattle.std.proofs.Common.{◌≡◌, ℕ, Result, Err, sym, subst}
use Rattle.std.specs.Result.{IsErrAnd}
use Rattle.std.proofs.lemmas.Result.{err_from_is_err_and}
use Rattle.prism_reading.specs.declared.mismatch.Mismatch.{Mismatch}
use Rattle.prism_reading.specs.declared.mismatch.Mismatch.TheVariants.{NoText, OutOfMemory}
use Rattle.prism_reading.specs.Reading.{Answers}

-- a mismatch tells what follows from it
passed_on : {U : Type 0} (Q : U → Type 0) (None Other : ℕ → Type 0) (fault : Mismatch) → ((left : ℕ) → None left → Other left)
    → Answers {T = Unit {0}} (λ nothing. Unit {0}) None (Err fault) → Answers Q Other (Err fault)
passed_on Q None Other (NoText left) weaker tells = weaker left tells
passed_on Q None Other (OutOfMemory fault) weaker tells = tt

-- what is missing of a part is missing of the whole
pub passed : {U : Type 0} (Q : U → Type 0) (None Other : ℕ → Type 0) (fault : Mismatch) (result : Result U Mismatch)
    → IsErrAnd result (λ same. same ≡ fault) → Answers {T = Unit {0}} (λ nothing. Unit {0}) None (Err fault) → ((left : ℕ) → None left → Other left) → Answers Q Other result
passed Q None Other fault result is tells weaker =
    let err = err_from_is_err_and result is in
    subst (λ r. Answers Q Other r) (sym err.1) (subst (λ f. Answers Q Other (Err f)) (sym err.2) (passed_on Q None Other fault weaker tells))
