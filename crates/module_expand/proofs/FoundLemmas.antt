-- What is found first among items that are mapped.
use Rattle.std.proofs.Common.{◌≡◌, ℕ, ◌+◌, ◌<◌, ◌≤◌, List, [], ◌∷◌, ◌++◌, Option, Bool, true, false, length, map, get_or, take, drop, find, cond, is_some, refl, sym, ap, ◌∙◌, Bor}
use Rattle.std.specs.Prelude.{None, Some}
use Rattle.std.specs.Option.{option_or, option_copied}
use Rattle.std.proofs.lemmas.List.{map_more, map-append, take_all, take-append-drop}
use Rattle.std.proofs.lemmas.List.Folds.{find-append}

-- one item more
pub mapped_one : {X Y : Type 0} (f : X → Y) (xs : List X) (i : ℕ) (x : X) → i < length xs → x ≡ get_or xs i x
    → map f (take (i + 1) xs) ≡ map f (take i xs) ++ (f x ∷ [])
mapped_one f xs i x lt is = map_more f xs i x lt ∙ ap (λ z. map f (take i xs) ++ (f z ∷ [])) (sym is)

-- none is found among the items so far and one more that does not pass
pub none_mapped_more : {X Y : Type 0} (test : Y → Bool) (f : X → Y) (xs : List X) (i : ℕ) (x : X) → i < length xs → x
    ≡ get_or xs i x
    → find test (map f (take i xs)) ≡ None → test (f x) ≡ false → find test (map f (take (i + 1) xs)) ≡ None
none_mapped_more test f xs i x lt is far fails =
    ap (find test) (mapped_one f xs i x lt is) ∙ (find-append test (map f (take i xs)) (f x ∷ [])
    ∙ (ap (λ o. option_or o (find test (f x ∷ []))) far ∙ ap (λ b. cond b (Some (f x)) None) fails))

-- what passes, where none before it does, is found among all
pub found_mapped : {X Y : Type 0} (test : Y → Bool) (f : X → Y) (xs : List X) (i : ℕ) (x : X) → i < length xs → x
    ≡ get_or xs i x
    → find test (map f (take i xs)) ≡ None → test (f x) ≡ true → find test (map f xs) ≡ Some (f x)
found_mapped test f xs i x lt is far holds =
    ap (find test) (ap (map f) (sym (take-append-drop (i + 1) xs)) ∙ (map-append f (take (i + 1) xs) (drop (i + 1) xs)
    ∙ ap (λ z. z ++ map f (drop (i + 1) xs)) (mapped_one f xs i x lt is)))
    ∙ (find-append test (map f (take i xs) ++ (f x ∷ [])) (map f (drop (i + 1) xs))
    ∙ ap (λ o. option_or o (find test (map f (drop (i + 1) xs))))
    (find-append test (map f (take i xs)) (f x ∷ []) ∙ (ap (λ o. option_or o (find test (f x ∷ []))) far
    ∙ ap (λ b. cond b (Some (f x)) None) holds)))

pub none_mapped : {X Y : Type 0} (test : Y → Bool) (f : X → Y) (xs : List X) (i : ℕ) → length xs ≤ i
    → find test (map f (take i xs)) ≡ None → find test (map f xs) ≡ None
none_mapped test f xs i le far = ap (λ z. find test (map f z)) (sym (take_all i xs le)) ∙ far

pub some_copied : {X : Type 0} (o : Option (Bor X)) → is_some (option_copied o) ≡ is_some o
some_copied None = refl
some_copied (Some x) = refl
