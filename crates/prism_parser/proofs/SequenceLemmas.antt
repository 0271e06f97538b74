-- What is known of texts of one rule, one after another.
use Rattle.std.proofs.Common.{◌≡◌, ◌<◌, ◌⊎◌, inl, inr, ⊎_elim, true, false, List, [], ◌∷◌, length, arith}
use Rattle.std.specs.Prelude.{All}
use Rattle.std.proofs.lemmas.List.Elements.{All-nil, All-cons}
use Rattle.prism_syntax.specs.declared.tokens.Kind.{Kind}
use Rattle.prism_syntax.specs.Models.{Each, Separated}
use Rattle.prism_limits.specs.ChainWalk.{is_arrow}
use Rattle.prism_limits.proofs.OthersLemmas.{is_other}
use Rattle.prism_parser.specs.Models.{OneHas, in_first, in_later}
use Rattle.prism_parser.proofs.KnownLemmas.{Known, known_none, known_raised, known_both, known_then}

-- what is known of each text of a rule
abbrev pub IsKnown : {X : Type 0} → (List Kind → X → Type 0) → (X → Type 0) → (X → Type 0) → Type 0
IsKnown {X} Rule Long Good = (a : List Kind) (x : X) → Rule a x → Known a (Long x) (Good x)

-- where one of some things has a property: the first, or one of the others
abbrev pub HasFirstOrLater : {X : Type 0} → (X → Type 0) → List X → Type 0
HasFirstOrLater Has [] = ⊥
HasFirstOrLater Has (x ∷ xs) = Has x ⊎ OneHas Has xs

pub first_or_later : {X : Type 0} {Has : X → Type 0} {xs : List X} → OneHas Has xs → HasFirstOrLater Has xs
first_or_later (in_first has) = inl has
first_or_later (in_later one) = inr one

-- and so one of them has it
pub one_of_all : {X : Type 0} {Has : X → Type 0} {x : X} {xs : List X} → Has x ⊎ OneHas Has xs → OneHas Has (x ∷ xs)
one_of_all (inl has) = in_first has
one_of_all (inr one) = in_later one

-- of one thing it is this one
pub only_one : {X : Type 0} {Has : X → Type 0} {x : X} → OneHas Has (x ∷ []) → Has x
only_one one = ⊎_elim (λ has. has) (λ none. absurd (first_or_later none)) (first_or_later one)

-- texts one after another
pub each_known : {X : Type 0} {Rule : List Kind → X → Type 0} {Long Good : X → Type 0} → IsKnown Rule Long Good → IsKnown (Each Rule) (OneHas Long) (All Good)
each_known {Good = Good} known _ _ Each.end = known_raised (λ long. absurd long) (λ one. first_or_later one) (λ good. All-nil Good) known_none
each_known {Good = Good} known _ _ (Each.more {a = a} {b = b} {x = x} {xs = xs} first others) =
    known_raised one_of_all (λ one. first_or_later one) (λ good. All-cons Good x xs good.0 good.1) (known_both a b (known a x first) (each_known known b xs others))

-- texts with a token between them: there is one at least
pub separated_known : {X : Type 0} {Rule : List Kind → X → Type 0} {Long Good : X → Type 0} (t : Kind) → is_arrow t ≡ false → is_other t ≡ true
    → IsKnown Rule Long Good → IsKnown (Separated t Rule) (OneHas Long) (λ xs. (0 < length xs) × All Good xs)
separated_known {Good = Good} t arrow other known _ _ (Separated.one {a = a} {x = x} first) =
    known_raised in_first only_one (λ good. (omega arith, All-cons Good x [] good (All-nil Good))) (known a x first)
separated_known {Good = Good} t arrow other known _ _ (Separated.more {a = a} {b = b} {x = x} {xs = xs} first others) =
    known_raised one_of_all (λ one. first_or_later one) (λ good. (omega arith, All-cons Good x xs good.0 good.1.1))
    (known_both a (t ∷ b) (known a x first) (known_then t arrow other (separated_known t arrow other known b xs others)))
