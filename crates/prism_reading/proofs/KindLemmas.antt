-- Kinds that are spelled alike are the same kind, and so are names and numbers that hold the same.
use Rattle.std.proofs.Common.{◌≡◌, ℕ, true, List, Some, None, refl, sym, ap, ◌∙◌}
use Rattle.prism_syntax.specs.declared.tokens.Kind.{Kind}
use Rattle.prism_syntax.specs.declared.tokens.Kind.TheVariants as k
use Rattle.prism_syntax.specs.Spelling.{spelling_of}
use Rattle.smc_num.specs.Fraction.{Fraction}
use Rattle.std.specs.Prelude.{bytes_eq}
use Rattle.std.proofs.lemmas.Slice.Eq.{bytes_eq-Decides}
use Rattle.prism_syntax.proofs.ListedLemmas.{one_spelled}

-- a token that holds a name or a number
pub data Holds : Kind → Type 0 where
  name : (text : List ℕ) → Holds (k.Name text)
  quoted : (text : List ℕ) → Holds (k.Quoted text)
  whole : (value : Fraction) → Holds (k.Whole value)
  real : (value : Fraction) → Holds (k.Real value)

-- each token that has no spelling of its own does
pub unspelled : (t : Kind) → spelling_of t ≡ None → Holds t
unfolding spelling_of
unspelled (k.Name text) none = name text
unspelled (k.Quoted text) none = quoted text
unspelled (k.Whole value) none = whole value
unspelled (k.Real value) none = real value
unspelled _ none = absurd (cc)

-- kinds that are spelled alike are the same
pub alike : {kind other : Kind} {a b : List ℕ} → spelling_of kind ≡ Some a → spelling_of other ≡ Some b → bytes_eq a b ≡ true → kind ≡ other
alike {kind = kind} {other = other} {a = a} {b = b} first second is = one_spelled kind other a first (second ∙ ap Some (sym ((bytes_eq-Decides a b).0 is)))

-- and the same kinds are spelled alike
pub alike_back : {kind other : Kind} {a b : List ℕ} → spelling_of kind ≡ Some a → spelling_of other ≡ Some b → kind ≡ other → bytes_eq a b ≡ true
alike_back {kind = kind} {other = other} {a = a} {b = b} first second is =
    let same : Some a ≡ Some b = sym first ∙ ap spelling_of is ∙ second in
    (bytes_eq-Decides a b).1 (cc)

-- a token that is no name and no number has a spelling
pub spelled : {t : Kind} → spelling_of t ≡ None → ((text : List ℕ) → t ≡ k.Name text → ⊥) → ((text : List ℕ) → t ≡ k.Quoted text → ⊥)
    → ((value : Fraction) → t ≡ k.Whole value → ⊥) → ((value : Fraction) → t ≡ k.Real value → ⊥) → ⊥
spelled {t = t} none no_name no_quoted no_whole no_real = of t (unspelled t none) no_name no_quoted no_whole no_real
  where
    of : (u : Kind) → Holds u → ((text : List ℕ) → u ≡ k.Name text → ⊥) → ((text : List ℕ) → u ≡ k.Quoted text → ⊥)
        → ((value : Fraction) → u ≡ k.Whole value → ⊥) → ((value : Fraction) → u ≡ k.Real value → ⊥) → ⊥
    of u (name text) a b c d = a text refl
    of u (quoted text) a b c d = b text refl
    of u (whole value) a b c d = c value refl
    of u (real value) a b c d = d value refl
