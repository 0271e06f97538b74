-- How long numbers are in a line.
use Rattle.std.proofs.Common.{ℕ, ◌<◌, ◌≤◌, ◌^◌, arith, length}
use Rattle.std.specs.Fmt.{decimal}
use Rattle.std.proofs.lemmas.Fmt.{length-decimal-le}

-- a number up to 2^28 has at most nine digits
pub nine_digits : (n : ℕ) → n ≤ 2 ^ 28 → length (decimal n) ≤ 9
nine_digits n small = length-decimal-le 9 n (omega arith) (omega arith) (omega arith)

-- a number of 64 bits has at most twenty digits
pub twenty_digits : (n : ℕ) → n < 2 ^ 64 → length (decimal n) ≤ 20
twenty_digits n wide = length-decimal-le 20 n (omega arith) (omega arith) wide
