-- What is made of each of a list: of those so far, of one more, and of all.
use Rattle.std.proofs.Common.{◌≡◌, ℕ, suc, ◌+◌, ◌<◌, ◌≤◌, Bool, true, false, List, [], ◌∷◌, ◌++◌, Option, All, length, get_or, drop, map, add-one, refl, sym, ap, ◌∙◌, subst, unwrap_or, append_assoc, arith}
use Rattle.std.specs.Prelude.{None, Some, ◌||◌}
use mathlib.Core.Logic.{inl, inr}
use Rattle.std.specs.List.{AllZip, AllPairs, list_any}
use Rattle.std.proofs.Math.Seq.{drop-cons}
use Rattle.std.proofs.lemmas.Bool.{cases_Bool}
use Rattle.std.proofs.lemmas.List.{append-nil, drop_all}
use Rattle.std.proofs.lemmas.List.Elements.{All-nil, All-cons, All-head, All-tail}
use Rattle.std.proofs.lemmas.List.Kept.{AllPairs-cons}
use Rattle.chain_model.specs.Sorts.{◌>>=◌}
use Rattle.typecheck.specs.Parts.{all_made}

-- these, and those of the parts that are left
abbrev pub made_with : {X : Type 0} → List X → List (Option X) → Option (List X)
made_with made parts = all_made parts >>= λ rest. Some (made ++ rest)

pub made_with-none : {X : Type 0} (parts : List (Option X)) → made_with [] parts ≡ all_made parts
made_with-none {X} parts = elim (all_made parts) as (λ o. (o >>= λ rest. Some ([] ++ rest)) ≡ o) [ None ↦ refl | Some made ↦ refl ]

pub made_with-more : {X : Type 0} (made : List X) (one : X) (part : Option X) (parts : List (Option X)) → part ≡ Some one
    → made_with (made ++ one ∷ []) parts ≡ made_with made (part ∷ parts)
made_with-more {X} made one part parts is =
    subst (λ (p : Option X). made_with (made ++ one ∷ []) parts ≡ made_with made (p ∷ parts)) (sym is)
    (elim (all_made parts) as (λ o. (o >>= λ rest. Some ((made ++ one ∷ []) ++ rest)) ≡ ((o >>= λ rest. Some (one ∷ rest)) >>= λ rest. Some (made ++ rest)))
    [ None ↦ refl | Some rest ↦ ap Some (append_assoc made (one ∷ []) rest) ])

-- what is left of a list is one more and the others
left_over : {X : Type 0} (xs : List X) (i : ℕ) (x : X) → i < length xs → x ≡ get_or xs i x → drop i xs ≡ x ∷ drop (i + 1) xs
left_over xs i x lt is = drop-cons xs i x lt ∙ ((λ k. sym is k ∷ drop (suc i) xs) ∙ ap (λ j. x ∷ drop j xs) (sym (add-one i)))

-- parts that are made of a list one by one
module _ {X Y : Type 0} (parts : List X → List (Option Y)) (part : X → Option Y) (cons : (x : X) (xs : List X) → parts (x ∷ xs) ≡ part x ∷ parts xs)
    (xs : List X) (i : ℕ) (made : List Y) (all : Option (List Y)) (before : made_with made (parts (drop i xs)) ≡ all) where
  opened : (x : X) → i < length xs → x ≡ get_or xs i x → made_with made (part x ∷ parts (drop (i + 1) xs)) ≡ all
  opened x lt is = ap (made_with made) (sym (ap parts (left_over xs i x lt is) ∙ cons x (drop (i + 1) xs))) ∙ before

  -- one more is made
  pub one_made : (x : X) (new : List Y) (one : Y) → i < length xs → x ≡ get_or xs i x → Some one ≡ part x → new ≡ made ++ one ∷ []
      → made_with new (parts (drop (i + 1) xs)) ≡ all
  one_made x new one lt is at pushed =
      ap (λ ys. made_with ys (parts (drop (i + 1) xs))) pushed
      ∙ (made_with-more made one (part x) (parts (drop (i + 1) xs)) (sym at) ∙ opened x lt is)

  -- where one is not made, not all are
  pub one_missing : (x : X) → i < length xs → x ≡ get_or xs i x → None ≡ part x → None ≡ all
  one_missing x lt is at = ap (λ (o : Option Y). made_with made (o ∷ parts (drop (i + 1) xs))) at ∙ opened x lt is

  -- at the end of the list all are made
  pub all_there : parts [] ≡ [] → length xs ≤ i → Some made ≡ all
  all_there nil le = ap Some (sym (append-nil made)) ∙ (sym (ap (made_with made) (ap parts (drop_all i xs le) ∙ nil)) ∙ before)

-- two that are there are one
pub same-Some : {X : Type 0} (x y : X) → Some x ≡ Some y → x ≡ y
same-Some x y is = ap (λ o. unwrap_or o x) is

-- what is made of each has what is known of it
module _ {A B : Type 0} (f : A → Option B) (P : A → Type 0) (R : A → B → Type 0) where
  pub made-each : ((x : A) → P x → (y : B) × (f x ≡ Some y) × R x y) → (xs : List A) → All P xs → (ys : List B) × (all_made (map f xs) ≡ Some ys) × AllZip R xs ys
  made-each each [] all = ([], refl, tt)
  made-each each (x ∷ xs) all =
      let one = each x (All-head P x xs all) in
      let rest = made-each each xs (All-tail P x xs all) in (
        one.0 ∷ rest.0,
        ap (λ (o : Option B). o >>= λ first. all_made (map f xs) >>= λ others. Some (first ∷ others)) one.1
            ∙ ap (λ (o : Option (List B)). o >>= λ others. Some (one.0 ∷ others)) rest.1,
        (one.2, rest.2),
      )

-- the first of pairs, and the others
pub pairs-head : {A : Type 0} (S : A → A → Type 0) (x : A) (xs : List A) → AllPairs S (x ∷ xs) → All (S x) xs
pairs-head S x xs pairs k d lt = pairs 0 (suc k) d (omega arith) (omega (arith, lt))

pub pairs-tail : {A : Type 0} (S : A → A → Type 0) (x : A) (xs : List A) → AllPairs S (x ∷ xs) → AllPairs S xs
pairs-tail S x xs pairs i j d lt within = pairs (suc i) (suc j) d (omega (arith, lt)) (omega (arith, within))

module _ {A B : Type 0} (R : A → B → Type 0) where
  -- what a function gives is related to each
  pub map-zip : (f : A → B) (xs : List A) → All (λ x. R x (f x)) xs → AllZip R xs (map f xs)
  map-zip f [] all = tt
  map-zip f (x ∷ xs) all = (All-head (λ z. R z (f z)) x xs all, map-zip f xs (All-tail (λ z. R z (f z)) x xs all))

  -- lists that are related are as long
  pub zip-long : (xs : List A) (ys : List B) → AllZip R xs ys → length xs ≡ length ys
  zip-long [] [] zips = refl
  zip-long [] (y ∷ ys) zips = absurd zips
  zip-long (x ∷ xs) [] zips = absurd zips
  zip-long (x ∷ xs) (y ∷ ys) zips = let rest : length xs ≡ length ys = zip-long xs ys zips.1 in omega (arith, rest)

  -- a relation that follows
  pub zip-weaker : (T : A → B → Type 0) → ((x : A) (y : B) → R x y → T x y) → (xs : List A) (ys : List B) → AllZip R xs ys → AllZip T xs ys
  zip-weaker T each [] [] zips = tt
  zip-weaker T each [] (y ∷ ys) zips = absurd zips
  zip-weaker T each (x ∷ xs) [] zips = absurd zips
  zip-weaker T each (x ∷ xs) (y ∷ ys) zips = (each x y zips.0, zip-weaker T each xs ys zips.1)

  -- where a test holds of one of the first, a test that follows holds of one of the others
  pub zip-any : (p : A → Bool) (q : B → Bool) → ((x : A) (y : B) → R x y → p x ≡ true → q y ≡ true) → (xs : List A) (ys : List B) → AllZip R xs ys
      → list_any p xs ≡ true → list_any q ys ≡ true
  zip-any p q each [] [] zips some = some
  zip-any p q each [] (y ∷ ys) zips some = absurd zips
  zip-any p q each (x ∷ xs) [] zips some = absurd zips
  zip-any p q each (x ∷ xs) (y ∷ ys) zips some = elim (cases_Bool (p x)) [
    | inl holds ↦ ap (λ b. b || list_any q ys) (each x y zips.0 holds)
    | inr fails ↦
        let rest : list_any q ys ≡ true = zip-any p q each xs ys zips.1 (sym (ap (λ b. b || list_any p xs) fails) ∙ some) in
        either (q y) (list_any q ys) rest
  ]
    where
      either : (a b : Bool) → b ≡ true → (a || b) ≡ true
      either true b holds = refl
      either false b holds = holds

  -- what follows of each relation holds of each
  pub zip-All : (Q : B → Type 0) → ((x : A) (y : B) → R x y → Q y) → (xs : List A) (ys : List B) → AllZip R xs ys → All Q ys
  zip-All Q each [] [] zips = All-nil Q
  zip-All Q each [] (y ∷ ys) zips = absurd zips
  zip-All Q each (x ∷ xs) [] zips = absurd zips
  zip-All Q each (x ∷ xs) (y ∷ ys) zips = All-cons Q y ys (each x y zips.0) (zip-All Q each xs ys zips.1)

  -- what holds of one and each later one goes over to what is related
  pub zip-Pairs : (S : A → A → Type 0) (T : B → B → Type 0) → ((x z : A) (y w : B) → R x y → R z w → S x z → T y w) → (xs : List A) (ys : List B)
      → AllZip R xs ys → AllPairs S xs → AllPairs T ys
  zip-Pairs S T goes [] [] zips pairs = λ i j d lt within. absurd (omega (arith, within))
  zip-Pairs S T goes [] (y ∷ ys) zips pairs = absurd zips
  zip-Pairs S T goes (x ∷ xs) [] zips pairs = absurd zips
  zip-Pairs S T goes (x ∷ xs) (y ∷ ys) zips pairs =
      AllPairs-cons T y ys (later xs ys zips.1 (pairs-head S x xs pairs)) (zip-Pairs S T goes xs ys zips.1 (pairs-tail S x xs pairs))
    where
      later : (zs : List A) (ws : List B) → AllZip R zs ws → All (S x) zs → All (T y) ws
      later [] [] more all = All-nil (T y)
      later [] (w ∷ ws) more all = absurd more
      later (z ∷ zs) [] more all = absurd more
      later (z ∷ zs) (w ∷ ws) more all =
          All-cons (T y) w ws (goes x z y w zips.0 more.0 (All-head (S x) z zs all)) (later zs ws more.1 (All-tail (S x) z zs all))
