-- Lists of tokens that are cut in two ways.
use Rattle.std.proofs.Common.{◌≡◌, List, [], ◌∷◌, ◌++◌, refl, sym, ◌∙◌, ap, append_assoc}
use Rattle.prism_syntax.specs.declared.tokens.Kind.{Kind}

-- of two prefixes of one list, the second ends within the first, or after it
pub data Overlap (a b c d : List Kind) : Type 0 where
  within : (m : List Kind) → a ≡ c ++ m → d ≡ m ++ b → Overlap a b c d
  beyond : (t : Kind) (m : List Kind) → c ≡ a ++ (t ∷ m) → b ≡ (t ∷ m) ++ d → Overlap a b c d

one_longer : {a b c d : List Kind} (t : Kind) → Overlap a b c d → Overlap (t ∷ a) b (t ∷ c) d
one_longer t (within m first second) = within m (ap (λ l. t ∷ l) first) second
one_longer t (beyond u m first second) = beyond u m (ap (λ l. t ∷ l) first) second

-- any two prefixes of one list are so
pub overlap : (a b c d : List Kind) → a ++ b ≡ c ++ d → Overlap a b c d
overlap a b [] d equal = within a refl (sym equal)
overlap [] b (t ∷ c) d equal = beyond t c refl equal
overlap (u ∷ a) b (t ∷ c) d equal =
    let heads : u ≡ t = cc in
    let rests : a ++ b ≡ c ++ d = cc in
    rw heads (one_longer t (overlap a b c d rests))

-- two texts before the same tokens, each regrouped
pub regroup : (a b r c d s : List Kind) → (a ++ b) ++ r ≡ (c ++ d) ++ s → a ++ (b ++ r) ≡ c ++ (d ++ s)
regroup a b r c d s equal = sym (append_assoc a b r) ∙ equal ∙ append_assoc c d s

-- a list cut after two parts is cut after the first of them
pub cut_first : {ts : List Kind} (a b s : List Kind) → ts ≡ (a ++ b) ++ s → ts ≡ a ++ (b ++ s)
cut_first a b s cut = cut ∙ append_assoc a b s

-- equal lists have equal rests
pub tails : {t u : Kind} {a b : List Kind} → t ∷ a ≡ u ∷ b → a ≡ b
tails equal = cc
