-- Names without those that stood before, and the actions of a list of names.
use Rattle.std.proofs.Common.{◌≡◌, ℕ, ◌+◌, ◌<◌, List, [], ◌∷◌, ◌++◌, Option, Bool, true, false, length, map, get_or, take, bytes_eq, refl, sym, ap, ◌∙◌, append-nil, arith}
use Rattle.std.specs.Option.{option_to_list}
use Rattle.std.proofs.lemmas.Grind.{common_steps}
use Rattle.std.specs.Prelude.{None, Some, ◌||◌, filter_map, if◌then◌else◌}
use mathlib.Core.Logic.{inl, inr}
use Rattle.std.specs.List.{cons_option, list_any, enumerate_from}
use Rattle.std.proofs.lemmas.Bool.{cases_Bool}
use Rattle.std.proofs.lemmas.List.{map-append}
use Rattle.std.proofs.lemmas.List.Elements.{filter_map-append}
use Rattle.prism_names.specs.First.{Name, is_among}
use Rattle.typed_trees.proofs.TableLemmas.{same_bytes, bytes_sym}
use Rattle.chain_model.specs.declared.chain.Action.{Action}
use Rattle.chain_model.specs.declared.chain.Act.{Act}
use Rattle.typecheck.specs.Declarations.{first_appearances, with_name}
use Rattle.typecheck.specs.Parts.{taking, made_actions}
use Rattle.const_eval.proofs.FirstLemmas as first
use Rattle.typecheck.proofs.MappedLemmas.{enumerate-append}

-- a test that holds before an or after is the same where the middle follows of the first
absorbed : (a b c : Bool) → (b ≡ true → a ≡ true) → (a || (b || c)) ≡ (a || c)
absorbed true b c follows = refl
absorbed false true c follows = absurd (let wrong : false ≡ true = follows refl in let never : ⊥ = cc in never)
absorbed false false c follows = refl

among-same : (names : List Name) (x n : Name) → is_among names x ≡ true → bytes_eq x n ≡ true → is_among names n ≡ true
among-same names x n has same = ap (is_among names) (sym (same_bytes x n same)) ∙ has

-- the name that is appended, where it was not there
abbrev appended : Bool → Name → List Name
appended there n = if there then [] else n ∷ []

swapped : (a b c : Bool) → ((a || b) || c) ≡ (b || (a || c))
swapped true true c = refl
swapped true false c = refl
swapped false true c = refl
swapped false false c = refl

-- one name more appears where it is not among those before
appear-more : (seen names : List Name) (n : Name)
    → first_appearances seen (names ++ n ∷ []) ≡ first_appearances seen names ++ appended (is_among seen n || is_among names n) n
appear-more seen [] n = elim (cases_Bool (is_among seen n)) [
  | inl has ↦
      ap (λ b. if b then [] else n ∷ []) has ∙ sym (ap (λ b. [] ++ appended (b || false) n) has)
  | inr lacks ↦
      ap (λ b. if b then [] else n ∷ []) lacks ∙ sym (ap (λ b. [] ++ appended (b || false) n) lacks)
]
appear-more seen (x ∷ names) n = elim (cases_Bool (is_among seen x)) [
  | inl has ↦
      ap (λ b. if b then first_appearances seen (names ++ n ∷ []) else x ∷ first_appearances (x ∷ seen) (names ++ n ∷ [])) has
      ∙ (appear-more seen names n
      ∙ (ap (λ b. first_appearances seen names ++ appended b n) (sym (absorbed (is_among seen n) (bytes_eq x n) (is_among names n) (among-same seen x n has)))
      ∙ sym (ap (λ b. (if b then first_appearances seen names else x ∷ first_appearances (x ∷ seen) names)
      ++ appended (is_among seen n || (bytes_eq x n || is_among names n)) n) has)))
  | inr lacks ↦
      ap (λ b. if b then first_appearances seen (names ++ n ∷ []) else x ∷ first_appearances (x ∷ seen) (names ++ n ∷ [])) lacks
      ∙ (ap (λ rest. x ∷ rest) (appear-more (x ∷ seen) names n)
      ∙ (ap (λ b. (x ∷ first_appearances (x ∷ seen) names) ++ appended b n) (swapped (bytes_eq x n) (is_among seen n) (is_among names n))
      ∙ sym (ap (λ b. (if b then first_appearances seen names else x ∷ first_appearances (x ∷ seen) names)
      ++ appended (is_among seen n || (bytes_eq x n || is_among names n)) n) lacks)))
]

or-same : (a b c : Bool) → (a ≡ false → b ≡ c) → (a || b) ≡ (a || c)
or-same true b c is = refl
or-same false b c is = is refl

passed : (a b : Bool) → a ≡ false → b ≡ (a || b)
passed true b fails = absurd (let never : ⊥ = cc in never)
passed false b fails = refl

-- what appears is among the names, where it was not seen before
pub among-appear : (seen names : List Name) (n : Name) → is_among seen n ≡ false → is_among (first_appearances seen names) n ≡ is_among names n
among-appear seen [] n new = refl
among-appear seen (x ∷ names) n new = elim (cases_Bool (is_among seen x)) [
  | inl has ↦
      ap (λ b. is_among (if b then first_appearances seen names else x ∷ first_appearances (x ∷ seen) names) n) has
      ∙ (among-appear seen names n new ∙ passed (bytes_eq x n) (is_among names n) (elim (cases_Bool (bytes_eq x n)) [
        | inl same ↦ absurd (let wrong : true ≡ false = sym (among-same seen x n has same) ∙ new in let never : ⊥ = cc in never)
        | inr other ↦ other
      ]))
  | inr lacks ↦
      ap (λ b. is_among (if b then first_appearances seen names else x ∷ first_appearances (x ∷ seen) names) n) lacks
      ∙ or-same (bytes_eq x n) (is_among (first_appearances (x ∷ seen) names) n) (is_among names n)
      (λ other. among-appear (x ∷ seen) names n (ap (λ b. b || is_among seen n) other ∙ new))
]

any-sym : (names : List Name) (n : Name) → list_any (bytes_eq n) names ≡ is_among names n
any-sym [] n = refl
any-sym (x ∷ names) n = ap (λ b. b || list_any (bytes_eq n) names) (bytes_sym n x) ∙ ap (λ b. bytes_eq x n || b) (any-sym names n)

inserted : (b c : Bool) (names : List Name) (n : Name) → b ≡ c → (if b then names else names ++ n ∷ []) ≡ names ++ appended c n
inserted true true names n is = sym (append-nil names)
inserted true false names n is = absurd (let never : ⊥ = cc in never)
inserted false true names n is = absurd (let never : ⊥ = cc in never)
inserted false false names n is = refl

-- the action of one command more is listed where it is not there
pub names-more : (names : List Name) (action : Option Name) → with_name (first_appearances [] names) action ≡ first_appearances [] (names ++ option_to_list action)
names-more names None = ap (first_appearances []) (sym (append-nil names))
names-more names (Some n) =
    inserted (list_any (bytes_eq n) (first_appearances [] names)) (is_among names n) (first_appearances [] names) n
    (any-sym (first_appearances [] names) n ∙ among-appear [] names n refl)
    ∙ sym (appear-more [] names n)

-- what is told of one item more is told after what was told
pub action-more : {X Y : Type 0} (f : X → Option Y) (xs : List X) (i : ℕ) (x : X) → i < length xs → x ≡ get_or xs i x
    → filter_map f (take (i + 1) xs) ≡ filter_map f (take i xs) ++ option_to_list (f x)
action-more f xs i x lt is =
    ap (filter_map f) (first.one_more xs i x lt is) ∙ (filter_map-append f (take i xs) (x ∷ []) ∙ ap (λ zs. filter_map f (take i xs) ++ zs) (single (f x)))
  where
    single : {Y : Type 0} (o : Option Y) → cons_option o [] ≡ option_to_list o
    single None = refl
    single (Some y) = refl

-- the action of a number and a name
abbrev made : List Act → ℕ × Name → Action
made acts a = record { name = a.1; takes = taking acts a.0 }

-- one action more stands behind the others
pub actions-more : (acts : List Act) (names : List Name) (i : ℕ) (n : Name) → i < length names → n ≡ get_or names i n
    → made_actions acts (take (i + 1) names) ≡ made_actions acts (take i names) ++ (record { name = n; takes = taking acts i }) ∷ []
actions-more acts names i n lt is =
    ap (made_actions acts) (first.one_more names i n lt is)
    ∙ (ap (map (made acts)) (enumerate-append 0 (take i names) (n ∷ []))
    ∙ (map-append (made acts) (enumerate_from 0 (take i names)) ((0 + length (take i names), n) ∷ [])
    ∙ ap (λ k. map (made acts) (enumerate_from 0 (take i names)) ++ (made acts (k, n) ∷ [])) long))
  where
    long : 0 + length (take i names) ≡ i
    long = grind (arith, common_steps, lt)
