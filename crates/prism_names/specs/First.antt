-- The first of a list with something to be told.
use Rattle.std.specs.Prelude.{◌≡◌, Bool, not, ℕ, List, [], ◌∷◌, Option, None, find, count_by, nat_lt, bytes_eq}
use Rattle.std.specs.List.{list_any, AllPairs}
use Rattle.std.specs.Option.{option_or}

-- a name, as its bytes
abbrev pub Name : Type 0
Name = List ℕ

-- a name is among these
abbrev pub is_among : List Name → Name → Bool
is_among names name = list_any (λ other. bytes_eq other name) names

-- what is told of the first item of which something is told
abbrev pub first_some : {X Y : Type 0} → (X → Option Y) → List X → Option Y
first_some tell [] = None
first_some tell (x ∷ xs) = option_or (tell x) (first_some tell xs)

-- the first of these names that is not among others
abbrev pub first_outside : List Name → List Name → Option Name
first_outside others names = find (λ name. not (is_among others name)) names

-- the first of these names that stands among all the names more than once
abbrev pub first_repeated : List Name → List Name → Option Name
first_repeated all names = find (λ name. nat_lt 1 (count_by (λ other. bytes_eq other name) all)) names

-- no two of these names are the same
abbrev pub AreDistinct : List Name → Type 0
AreDistinct names = AllPairs (λ a b. ¬ (a ≡ b)) names
