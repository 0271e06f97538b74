-- The first of some tokens.
use Rattle.std.proofs.Common.{◌≡◌, ◌-◌, ◌≤◌, List, [], ◌∷◌, length, take, drop, get_or, sym, ap, arith, ◌∙◌}
use Rattle.std.proofs.lemmas.List.{take_all}
use Rattle.prism_syntax.specs.declared.tokens.Kind.{Kind}
use Rattle.prism_syntax.specs.declared.tokens.Token.{Token}
use Rattle.prism_syntax.specs.Tokens.{kinds}

-- the first of some tokens, and those after it, as slices have them
pub first_of : {A : Type 0} (ts : List A) (first : A) → 1 ≤ length ts → first ≡ get_or ts 0 first → ts ≡ first ∷ take (length ts - 1) (drop 1 ts)
first_of [] first some is = absurd (omega arith)
first_of (t ∷ ts) first some is =
    let all : take (length (t ∷ ts) - 1) ts ≡ ts = take_all (length (t ∷ ts) - 1) ts (omega arith) in
    rw all (ap (λ a. a ∷ ts) (sym is))

-- the same of their kinds
pub starts_with : (ts : List Token) (first : Token) (kind : Kind) → 1 ≤ length ts → first ≡ get_or ts 0 first → first.kind ≡ kind → kinds ts ≡ kind ∷ kinds (take (length ts - 1) (drop 1 ts))
starts_with ts first kind some is same = ap kinds (first_of ts first some is) ∙ ap (λ t. t ∷ kinds (take (length ts - 1) (drop 1 ts))) same
