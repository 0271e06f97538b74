-- Where an item stands in lists that are made of the items of another, one after another.
use Rattle.std.proofs.Common.{◌≡◌, ℕ, ◌+◌, ◌-◌, ◌<◌, ◌≤◌, ◌^◌, List, [], ◌∷◌, ◌++◌, length, get_or, set, take, drop, map, min, Bool, Option, Some, refl, sym, ap, ◌∙◌, arith, length-append}
use Rattle.std.specs.Prelude.{filter, flat_map, option_map, slice_get}
use Rattle.std.proofs.lemmas.List.{at_drop_more, length-map}
use Rattle.trace_meaning.proofs.CombinationLemmas.{get_front, get_back, get_mapped}
use Rattle.successors.specs.Partition.{joint_lists, choice_lists}

-- an item stands in the lists of the items from one on
pub record Placed {A B : Type 0} (f : A → List B) (xs : List A) (i left : ℕ) (whole : Option B) : Type 0 where
  pub there : left < length (flat_map f (drop i xs))
  pub few : length (flat_map f (drop i xs)) ≤ 2 ^ 48
  pub same : slice_get (flat_map f (drop i xs)) left ≡ whole

-- the lists from one item on are its list, and the further ones
record Cut {A B : Type 0} (f : A → List B) (xs : List A) (i : ℕ) (x : A) : Type 0 where
  is : flat_map f (drop i xs) ≡ f x ++ flat_map f (drop (i + 1) xs)
  size : length (flat_map f (drop i xs)) ≡ length (f x) + length (flat_map f (drop (i + 1) xs))

cut_at : {A B : Type 0} (f : A → List B) (xs : List A) (i : ℕ) (x : A) → i < length xs → x ≡ get_or xs i x → Cut f xs i x
cut_at f xs i x lt is =
    let cut = at_drop_more (flat_map f) xs i x lt ∙ ap (λ y. flat_map f (y ∷ drop (i + 1) xs)) (sym is) in
    record { is = cut; size = ap length cut ∙ length-append (f x) (flat_map f (drop (i + 1) xs)) }

pub placed_here : {A B : Type 0} (f : A → List B) (xs : List A) (i left many : ℕ) (x : A) (whole : Option B) → i < length xs → x ≡ get_or xs i x → Placed f xs i left whole
    → many ≡ min (length (f x)) (2 ^ 48 + 1) → left < many → slice_get (f x) left ≡ whole
placed_here f xs i left many x whole lt is so counted less =
    sym (get_front (f x) (flat_map f (drop (i + 1) xs)) left (omega (arith, counted, less)))
    ∙ sym (ap (λ ls. slice_get ls left) (cut_at f xs i x lt is).is) ∙ so.same

-- or it is one of the further ones
pub placed_further : {A B : Type 0} (f : A → List B) (xs : List A) (i left many : ℕ) (x : A) (whole : Option B) → i < length xs → x ≡ get_or xs i x → Placed f xs i left whole
    → many ≡ min (length (f x)) (2 ^ 48 + 1) → many ≤ left → Placed f xs (i + 1) (left - many) whole
placed_further f xs i left many x whole lt is so counted more =
    let cut = cut_at f xs i x lt is in
    let exact : many ≡ length (f x) = omega (arith, counted, cut.size, so.few) in
    record {
      there = omega (arith, exact, more, cut.size, so.there);
      few = omega (arith, cut.size, so.few);
      same = sym (get_back (f x) (flat_map f (drop (i + 1) xs)) (left - many) left (omega (arith, exact, more))) ∙ sym (ap (λ ls. slice_get ls left) cut.is) ∙ so.same;
    }

-- an item without a list is passed over
pub empty : {B : Type 0} (ys : List B) → length ys ≡ 0 → ys ≡ []
empty [] none = refl
empty (y ∷ ys) none = absurd (omega (arith, none))

pub none_further : {A B : Type 0} (f : A → List B) (xs : List A) (i : ℕ) (x : A) → i < length xs → x ≡ get_or xs i x → length (f x) ≡ 0
    → flat_map f (drop i xs) ≡ flat_map f xs → flat_map f (drop (i + 1) xs) ≡ flat_map f xs
none_further f xs i x lt is none so =
    sym (ap (λ ys. ys ++ flat_map f (drop (i + 1) xs)) (empty (f x) none)) ∙ sym (cut_at f xs i x lt is).is ∙ so

-- the first item with a list
pub first_further : {A B : Type 0} (f : A → List B) (xs : List A) (i : ℕ) (x : A) → i < length xs → x ≡ get_or xs i x
    → flat_map f (drop i xs) ≡ flat_map f xs → flat_map f xs ≡ f x ++ flat_map f (drop (i + 1) xs)
first_further f xs i x lt is so = sym so ∙ (cut_at f xs i x lt is).is

-- one command alone
pub written_first : (chosen : List ℕ) (x : ℕ) → 1 ≤ length chosen → take 1 (set chosen 0 x) ≡ x ∷ []
written_first [] x some = absurd (omega (arith, some))
written_first (y ∷ ys) x some = refl

-- the first choices are those of one command
pub single_here : (p : ℕ → Bool) (alone : List ℕ) (joint : List (List (List ℕ))) (number command : ℕ) (chosen : List ℕ) → number < length (filter p alone)
    → slice_get (filter p alone) number ≡ Some command → 1 ≤ length chosen → slice_get (choice_lists p alone joint) number ≡ Some (take 1 (set chosen 0 command))
single_here p alone joint number command chosen lt is some =
    get_front (map (λ n. n ∷ []) (filter p alone)) (flat_map (joint_lists p) joint) number (omega (arith, lt, length-map (filter p alone) (λ (n : ℕ). n ∷ [])))
    ∙ get_mapped (λ n. n ∷ []) (filter p alone) number
    ∙ ap (option_map (λ n. n ∷ [])) is
    ∙ ap Some (sym (written_first chosen command some))

-- the further ones are those of actions
pub joint_here : (p : ℕ → Bool) (alone : List ℕ) (joint : List (List (List ℕ))) (number count : ℕ) → count ≡ length (filter p alone) → count ≤ number
    → slice_get (choice_lists p alone joint) number ≡ slice_get (flat_map (joint_lists p) joint) (number - count)
joint_here p alone joint number count is past =
    get_back (map (λ n. n ∷ []) (filter p alone)) (flat_map (joint_lists p) joint) (number - count) number (omega (arith, is, past, length-map (filter p alone) (λ (n : ℕ). n ∷ [])))
