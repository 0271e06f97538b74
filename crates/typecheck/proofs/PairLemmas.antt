-- What is known of two values of which both were made, or both are there.
use Rattle.std.proofs.Common.{◌≡◌, Option, refl, sym, ◌∙◌, false, true}
use Rattle.std.specs.Prelude.{None, Some, ◌⊎◌, Result, Ok, Err, IfErr, OnOk, IsOk}
use mathlib.Core.Logic.{inl, inr}
use Rattle.std.specs.Option.{option_zip}
use Rattle.std.proofs.lemmas.Result.{IfErr-at_err}
use Rattle.chain_model.specs.Sorts.{◌>>=◌}
use Rattle.typecheck.proofs.MakingLemmas.{same-Some}

pub on-always : {T E : Type 0} (r : Result T E) (P : Type 0) → P → OnOk r P
on-always (Ok x) P holds = holds
on-always (Err e) P holds = tt

pub on-any-ok : {T E : Type 0} (r : Result T E) (P : Type 0) → IsOk r → OnOk r P → P
on-any-ok (Ok x) P ok holds = holds
on-any-ok (Err e) P ok holds = absurd (let no : false ≡ true = ok in let never : ⊥ = cc in never)

-- of the fault of two calls, the first of which goes first
pub failed-either : {T U E : Type 0} (r : Result T E) (s : Result U E) (e : E) (P Q : E → Type 0) (F R : Type 0)
    → (r ≡ Err e) ⊎ (IsOk r × (s ≡ Err e)) → IfErr r P → OnOk r F → IfErr s Q → (P e → R) → (F → Q e → R) → R
failed-either r s e P Q F R (inl is) p fact q one two = one (IfErr-at_err P is p)
failed-either r s e P Q F R (inr both) p fact q one two = two (on-any-ok r F both.0 fact) (IfErr-at_err Q both.1 q)

module _ {A B C : Type 0} (f : A → B → C) where
  -- what is made of two that are there is what is made of one after the other
  zip-some : (a : Option A) (b : Option B) (x : A) (y : B) → option_zip a b ≡ Some (x, y) → Some (f x y) ≡ (a >>= λ p. b >>= λ q. Some (f p q))
  zip-some None b x y is = absurd (let no : None ≡ Some (x, y) = is in let never : ⊥ = cc in never)
  zip-some (Some p) None x y is = absurd (let no : None ≡ Some (x, y) = is in let never : ⊥ = cc in never)
  zip-some (Some p) (Some q) x y is = let same : (x, y) ≡ (p, q) = sym (same-Some (p, q) (x, y) is) in λ i. Some (f (same i).0 (same i).1)

  zip-none : (a : Option A) (b : Option B) → option_zip a b ≡ None → None ≡ (a >>= λ p. b >>= λ q. Some (f p q))
  zip-none None b is = refl
  zip-none (Some p) None is = refl
  zip-none (Some p) (Some q) is = absurd (let no : Some (p, q) ≡ None = is in let never : ⊥ = cc in never)

  pub made-some : (a c : Option A) (b d : Option B) (x : A) (y : B) → a ≡ c → b ≡ d → option_zip a b ≡ Some (x, y) → Some (f x y) ≡ (c >>= λ p. d >>= λ q. Some (f p q))
  made-some a c b d x y one two is = zip-some a b x y is ∙ (λ i. one i >>= λ p. two i >>= λ q. Some (f p q))

  pub made-none : (a c : Option A) (b d : Option B) → a ≡ c → b ≡ d → option_zip a b ≡ None → None ≡ (c >>= λ p. d >>= λ q. Some (f p q))
  made-none a c b d one two is = zip-none a b is ∙ (λ i. one i >>= λ p. two i >>= λ q. Some (f p q))

-- two that are there
pub both-there : {A B : Type 0} (a : Option A) (b : Option B) → option_zip a b ≡ (a >>= λ p. b >>= λ q. Some (p, q))
both-there None b = refl
both-there (Some p) None = refl
both-there (Some p) (Some q) = refl
