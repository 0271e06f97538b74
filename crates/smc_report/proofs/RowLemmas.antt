-- The numbers and the texts of rows.
use Rattle.std.proofs.Common.{◌≡◌, ℕ, List, Option, Some, None, option_map, refl, ap₂}
use Rattle.smc_report.specs.declared.reason.Subject.{Subject}
use Rattle.smc_report.specs.Refusals.{Row, row_for, number_for, number_in, text_in, row_line}

-- the number of the row of one of the texts is that of the model's row for this text
pub number_in-row_for : (subject : Subject) (found : Option Row)
    → number_in (row_for subject found) ≡ option_map (number_for subject) (number_in found)
number_in-row_for subject None = refl
number_in-row_for subject (Some r) = refl

-- the text of a row is the same for both texts
pub text_in-row_for : (subject : Subject) (found : Option Row) → text_in (row_for subject found) ≡ text_in found
text_in-row_for subject None = refl
text_in-row_for subject (Some r) = refl

-- the line of the row with a number and a text
pub line_of_row : (found : Option Row) (number : ℕ) (text : List ℕ)
    → number_in found ≡ Some number → text_in found ≡ Some text
    → option_map row_line found ≡ Some (row_line (record { number = number; text = text }))
line_of_row None number text e f = cc
line_of_row (Some r) number text e f =
    let n : r.number ≡ number = cc in
    let t : r.text ≡ text = cc in
    ap₂ (λ x y. Some (row_line (record { number = x; text = y }))) n t
