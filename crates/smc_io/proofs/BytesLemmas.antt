-- Bytes that are written and read in several calls.
use Rattle.std.proofs.Common.{◌≡◌, ℕ, ◌+◌, ◌-◌, ◌≤◌, List, ◌++◌, length, take, drop, Option, None, Some, append_assoc, refl, arith, length-append, length-drop}
use Rattle.std.proofs.Math.Seq.{take-add, take-length}
use Rattle.std.proofs.lemmas.List.{length-take}
use Rattle.std.specs.Io.KnownBytes.{Appends, Consumes}
use Rattle.smc_io.specs.Bytes.{TakesAtMost}

-- the bytes from a place on are as many as there are
take_rest : (bytes : List ℕ) (start : ℕ) → take (length bytes - start) (drop start bytes) ≡ drop start bytes
take_rest bytes start = rw (← length-drop start bytes) (take-length (drop start bytes))

-- a prefix was appended, and then a prefix of what follows it
pub Appends-take_more : (a b c : Option (List ℕ)) (bytes : List ℕ) (start count : ℕ) → Appends a b (take start bytes) → Appends b c (take count (take (length bytes - start) (drop start bytes))) → Appends a c (take (start + count) bytes)
Appends-take_more None b c bytes start count first then = tt
Appends-take_more (Some xs) None c bytes start count first then = absurd first
Appends-take_more (Some xs) (Some ys) None bytes start count first then = then
Appends-take_more (Some xs) (Some ys) (Some zs) bytes start count first then =
    let next : zs ≡ ys ++ take count (drop start bytes) = rw take_rest at then in
    rw (take-add start count bytes, next, first, append_assoc) refl

-- bytes were consumed, and then more
Consumes-more : (a b c : Option (List ℕ)) (xs ys : List ℕ) → Consumes a b xs → Consumes b c ys → Consumes a c (xs ++ ys)
Consumes-more None b c xs ys first then = tt
Consumes-more (Some us) None c xs ys first then = absurd first
Consumes-more (Some us) (Some vs) None xs ys first then = then
Consumes-more (Some us) (Some vs) (Some ws) xs ys first then = rw (first, then, append_assoc) refl

-- bytes were consumed, and then the first bytes of a piece, together at most n
pub TakesAtMost-more : (a b c : Option (List ℕ)) (xs piece : List ℕ) (count n : ℕ) → Consumes a b xs → Consumes b c (take count piece) → length xs + count ≤ n → TakesAtMost n a c
TakesAtMost-more a b c xs piece count n first then fits =
    (xs ++ take count piece, omega (arith, length-append xs (take count piece), length-take count piece), Consumes-more a b c xs (take count piece) first then)
