-- What a kind and a state tell of an observer.
use Rattle.std.proofs.Common.{◌≡◌, Bool, true, false, List, [], ◌∷◌, refl, map}
use Rattle.stop_rules.specs.Observers.{Observation, longest_run, batches, recorder, bit_of, kind_of, state_of}

-- bits are equal where they are as numbers
equal_bit : (a b : Bool) → bit_of a ≡ bit_of b → a ≡ b
equal_bit true true e = refl
equal_bit true false e = cc
equal_bit false true e = cc
equal_bit false false e = refl

-- lists of bits are equal where they are as numbers
equal_bits : (a b : List Bool) → map bit_of a ≡ map bit_of b → a ≡ b
equal_bits [] [] e = refl
equal_bits [] (y ∷ b) e = cc
equal_bits (x ∷ a) [] e = cc
equal_bits (x ∷ a) (y ∷ b) e =
    let same : bit_of x ≡ bit_of y = cc in
    let rest : map bit_of a ≡ map bit_of b = cc in
    let head = equal_bit x y same in
    let tail = equal_bits a b rest in cc

-- observers of one kind and state have seen the same
pub equal_observations : (a b : Observation) → kind_of a ≡ kind_of b → state_of a ≡ state_of b → a ≡ b
equal_observations (longest_run run best) (longest_run run' best') k s = cc
equal_observations (longest_run run best) (batches size seen trues full least most) k s = cc
equal_observations (longest_run run best) (recorder most bits) k s = cc
equal_observations (batches size seen trues full least most) (longest_run run best) k s = cc
equal_observations (batches size seen trues full least most) (batches size' seen' trues' full' least' most') k s = cc
equal_observations (batches size seen trues full least most) (recorder most' bits) k s = cc
equal_observations (recorder most bits) (longest_run run best) k s = cc
equal_observations (recorder most bits) (batches size seen trues full least most') k s = cc
equal_observations (recorder most bits) (recorder most' bits') k s =
    let same : most ≡ most' = cc in
    let rest : map bit_of bits ≡ map bit_of bits' = cc in
    let tail = equal_bits bits bits' rest in cc
