-- What the spelling of a number says of it.
use Rattle.std.proofs.Common.{◌≡◌, ℕ, List, Some, false, ◌∙◌, sym}
use Rattle.smc_num.specs.Spelling.{IsSpelled, Written, without_minus}
use Rattle.smc_num.proofs.SpellingLemmas.{number_found}

same_written : (v w : Written) → Some v ≡ Some w → v ≡ w
same_written v w same = cc

-- a text spells one number at most
pub one_spelling : (text : List ℕ) (v w : Written) → IsSpelled text v → IsSpelled text w → v ≡ w
one_spelling text v w first second =
    same_written v w (sym (number_found text false v (without_minus text v first)).1 ∙ (number_found text false w (without_minus text w second)).1)
