-- The first variable that is left out, over one renaming more.
use Rattle.std.proofs.Common.{◌≡◌, ℕ, zero, suc, ◌+◌, ◌<◌, ◌≤◌, List, [], ◌∷◌, ◌++◌, Option, length, map, get_or, take, true, false, is_some, arith, refl, sym, ap, ◌∙◌, subst}
use Rattle.std.specs.Prelude.{None, Some, ◌⊎◌, slice_get, position, option_and_then}
use mathlib.Core.Logic.{inl, inr}
use Rattle.std.proofs.lemmas.Grind.{common_steps}
use Rattle.std.proofs.lemmas.List.{take_all}
use Rattle.prism_syntax.specs.declared.models.Variable.{Variable}
use Rattle.prism_syntax.specs.declared.models.Module.{Module}
use Rattle.prism_syntax.specs.declared.models.Module.TheVariants.{Written, Renamed}
use Rattle.prism_syntax.specs.declared.commands.Command.{Command}
use Rattle.prism_names.specs.First.{Name}
use Rattle.module_expand.specs.Renamed.{right_of, variables_of}
use Rattle.module_expand.specs.Flat.{is_written_as}
use Rattle.module_expand.specs.Refusals.{LeavesOut, IsNotAfter}
use Rattle.module_expand.specs.LeftOut.{IsFirstWhere, IsFirstOf, IsFirstOfAll, IsFirstVariable, HasNoPair, IsEarlier}
use Rattle.module_expand.proofs.FirstLemmas.{not_none, some_same, one_more}
use Rattle.module_expand.proofs.OrderLemmas.{place_at}
use Rattle.module_expand.proofs.PlaceLemmas.{at_front, at_end, front_or_end}

-- one of these renamings leaves out the variable
abbrev pub IsLeftOutBy : List Module → List Module → ℕ → ℕ → Name → Type 0
IsLeftOutBy modules some i j name = (k : ℕ) × ((d : Module) × (slice_get some k ≡ Some d)
    × LeavesOut modules d i j name)

-- the first variable that one of these renamings leaves out
abbrev pub IsFirstOfSome : List Module → List Module → Option (ℕ × ℕ × Name) → Type 0
IsFirstOfSome modules some found = IsFirstWhere (IsLeftOutBy modules some) found

-- one renaming more leaves out what those before it leave out, and what it leaves out itself
cases_more : (modules some : List Module) (d : Module) (i j : ℕ) (name : Name) → IsLeftOutBy modules (some
    ++ (d ∷ [])) i j name
    → IsLeftOutBy modules some i j name ⊎ LeavesOut modules d i j name
cases_more modules some d i j name h = elim (front_or_end some d h.1.0 h.0 h.1.1) [
  | inl front ↦ inl (h.0, (h.1.0, front, h.1.2))
  | inr end ↦ inr (subst (λ m. LeavesOut modules m i j name) (sym end.1) h.1.2)
]

kept_more : (modules some : List Module) (d : Module) (i j : ℕ) (name : Name) → IsLeftOutBy modules some i j name
    → IsLeftOutBy modules (some ++ (d ∷ [])) i j name
kept_more modules some d i j name h = (h.0, (h.1.0, at_front some d h.1.0 h.0 h.1.1, h.1.2))

added_more : (modules some : List Module) (d : Module) (i j : ℕ) (name : Name) → LeavesOut modules d i j name
    → IsLeftOutBy modules (some ++ (d ∷ [])) i j name
added_more modules some d i j name h = (length some, (d, at_end some d, h))

then_after : (a b c d x y : ℕ) → IsNotAfter a b c d → IsNotAfter c d x y → IsNotAfter a b x y
then_after a b c d x y (inl p) (inl q) = inl (omega (arith, p, q))
then_after a b c d x y (inl p) (inr q) = inl (omega (arith, p, q.0))
then_after a b c d x y (inr p) (inl q) = inl (omega (arith, p.0, q))
then_after a b c d x y (inr p) (inr q) = inr (p.0 ∙ q.0, omega (arith, p.1, q.1))

-- the earlier of the first before and the first of one renaming more is the first of all
with_more : (modules some : List Module) (d : Module) (a b found : Option (ℕ × ℕ × Name))
    → IsFirstOfSome modules some a → IsFirstOf modules d b
    → IsEarlier a b found → IsFirstOfSome modules (some ++ (d ∷ [])) found
with_more modules some d None b found p q is = subst (IsFirstOfSome modules (some ++ (d ∷ []))) (sym is) (only b q)
  where
    only : (o : Option (ℕ × ℕ × Name)) → IsFirstOf modules d o → IsFirstOfSome modules (some ++ (d ∷ [])) o
    only None none = λ i j name h. elim (cases_more modules some d i j name h)
        [ inl before ↦ p i j name before | inr own ↦ none i j name own ]
    only (Some y) first = (
      added_more modules some d y.0 y.1 y.2 first.0,
      λ i j name h.
          elim (cases_more modules some d i j name h) [
            | inl before ↦ absurd (p i j name before)
            | inr own ↦ first.1 i j name own
          ],
    )
with_more modules some d (Some x) None found p q is = subst (IsFirstOfSome modules (some ++ (d ∷ []))) (sym is) (
  kept_more modules some d x.0 x.1 x.2 p.0,
  λ i j name h. elim (cases_more modules some d i j name h) [
    | inl before ↦ p.1 i j name before
    | inr own ↦ absurd (q i j name own)
  ],
)
with_more modules some d (Some x) (Some y) found p q is = elim is [
  | inl a ↦ subst (IsFirstOfSome modules (some ++ (d ∷ []))) (sym a.0) (
    kept_more modules some d x.0 x.1 x.2 p.0,
    λ i j name h. elim (cases_more modules some d i j name h) [
      | inl before ↦ p.1 i j name before
      | inr own ↦ then_after x.0 x.1 y.0 y.1 i j a.1 (q.1 i j name own)
    ],
  )
  | inr b ↦ subst (IsFirstOfSome modules (some ++ (d ∷ []))) (sym b.0) (
    added_more modules some d y.0 y.1 y.2 q.0,
    λ i j name h. elim (cases_more modules some d i j name h) [
      | inl before ↦ then_after y.0 y.1 x.0 x.1 i j b.1 (p.1 i j name before)
      | inr own ↦ q.1 i j name own
    ],
  )
]

pub first_more : (modules xs : List Module) (k : ℕ) (d : Module) (a b found : Option (ℕ × ℕ × Name)) → k < length xs
    → d ≡ get_or xs k d
    → IsFirstOfSome modules (take k xs) a → IsFirstOf modules d b → IsEarlier a b found
    → IsFirstOfSome modules (take (k + 1) xs) found
first_more modules xs k d a b found lt is p q earlier =
    subst (λ some. IsFirstOfSome modules some found) (sym (one_more xs k d lt is)) (with_more modules (take k xs)
    d a b found p q earlier)

pub first_none : (modules : List Module) → IsFirstOfSome modules [] None
first_none modules i j name h = not_none h.1.0 (sym h.1.1)

pub first_all : (modules : List Module) (k : ℕ) (found : Option (ℕ × ℕ × Name)) → length modules ≤ k
    → IsFirstOfSome modules (take k modules) found → IsFirstOfAll modules found
first_all modules k found le p = subst (λ some. IsFirstOfSome modules some found) (take_all k modules le) p

-- the first where the same holds
same_where : (P Q : ℕ → ℕ → Name → Type 0) → ((i j : ℕ) (name : Name) → P i j name → Q i j name)
    → ((i j : ℕ) (name : Name) → Q i j name → P i j name)
    → (found : Option (ℕ × ℕ × Name)) → IsFirstWhere P found → IsFirstWhere Q found
same_where P Q to back None none = λ i j name h. none i j name (back i j name h)
same_where P Q to back (Some v) first = (to v.0 v.1 v.2 first.0, λ i j name h. first.1 i j name (back i j name h))

-- what a renaming of the module at this place leaves out is what has no pair there
first_there : (modules : List Module) (m : Module) (title source : Name) (pairs : List (Name × Name)) (place : ℕ)
    (vars : List Variable) (found : Option (ℕ × ℕ × Name))
    → position (is_written_as source) modules ≡ Some place → slice_get modules place ≡ Some m → vars ≡ variables_of m
    → IsFirstVariable vars pairs place found → IsFirstOf modules (Renamed title source pairs) found
first_there modules m title source pairs place vars found is at has = same_where (HasNoPair vars pairs place)
    (LeavesOut modules (Renamed title source pairs))
    (λ i j name h. (is ∙ ap Some h.0, named i j h.0 ∙ h.1, h.2))
    (λ i j name h. let same : place ≡ i = some_same place i (sym is ∙ h.0) in (
      same,
      sym (named i j same)
          ∙ h.1,
      h.2,
    )) found
  where
    named : (i j : ℕ) → place ≡ i → option_and_then (λ m. slice_get (map (λ v. v.name) (variables_of m)) j)
        (slice_get modules i) ≡ slice_get (map (λ v. v.name) vars) j
    named i j same = ap (option_and_then (λ m. slice_get (map (λ v. v.name) (variables_of m)) j))
        (ap (slice_get modules) (sym same) ∙ at)
        ∙ ap (λ vs. slice_get (map (λ v. v.name) vs) j) (sym has)

pub first_of_source : (modules : List Module) (item m : Module) (title source : Name)
    (pairs used : List (Name × Name)) (place : ℕ) (vars : List Variable)
    (found : Option (ℕ × ℕ × Name)) → item ≡ Renamed title source pairs → used ≡ pairs
    → position (is_written_as source) modules ≡ Some place → slice_get modules place ≡ Some m
    → vars ≡ variables_of m → IsFirstVariable vars used place found → IsFirstOf modules item found
first_of_source modules item m title source pairs used place vars found item_is same is at has first =
    subst (λ d. IsFirstOf modules d found) (sym item_is) (first_there modules m title source pairs place vars found
    is at has
    (subst (λ ps. IsFirstVariable vars ps place found) same first))

-- nothing is left out of a source that isn't there, nor by a module that is written out
pub first_of_missing : (modules : List Module) (item : Module) (title source : Name) (pairs : List (Name × Name))
    → item ≡ Renamed title source pairs
    → position (is_written_as source) modules ≡ None → IsFirstOf modules item None
first_of_missing modules item title source pairs item_is none i j name h =
    let at : position (is_written_as source) modules ≡ Some i =
    (subst (λ d. LeavesOut modules d i j name) item_is h).0 in not_none i (sym at ∙ none)

pub first_of_written : (modules : List Module) (item : Module) (title : Name) (vars : List Variable)
    (commands : List Command) → item ≡ Written title vars commands
    → IsFirstOf modules item None
first_of_written modules item title vars commands item_is i j name h = subst (λ d. LeavesOut modules d i j name)
    item_is h

-- each of the first k variables has a pair
abbrev pub HavePairs : List Variable → List (Name × Name) → ℕ → Type 0
HavePairs vars pairs k = (j : ℕ) (name : Name) → j < k → slice_get (map (λ v. v.name) vars) j ≡ Some name
    → right_of pairs name ≡ None → ⊥

named_at : (vars : List Variable) (k : ℕ) (v : Variable) → k < length vars → v ≡ get_or vars k v
    → slice_get (map (λ v. v.name) vars) k ≡ Some v.name
named_at [] k v lt is = absurd (omega (arith, lt))
named_at (w ∷ vars) zero v lt is = ap (λ x. Some x.name) (sym is)
named_at (w ∷ vars) (suc k) v lt is = named_at vars k v (omega (arith, lt)) is

none_of : {X : Type 0} (o : Option X) → is_some o ≡ false → o ≡ None
none_of None h = refl
none_of (Some x) h = cc

not_none_of : {X : Type 0} (o : Option X) → is_some o ≡ true → o ≡ None → ⊥
not_none_of None h is = cc
not_none_of (Some x) h is = not_none x is

earlier : (j k : ℕ) → j < k + 1 → (j < k) ⊎ (j ≡ k)
earlier j k below = grind (arith, below)

pub pairs_more : (vars : List Variable) (pairs : List (Name × Name)) (k : ℕ) (v : Variable) → k < length vars → v
    ≡ get_or vars k v
    → is_some (right_of pairs v.name) ≡ true → HavePairs vars pairs k → HavePairs vars pairs (k + 1)
pairs_more vars pairs k v lt is paired have j name below at none = elim (earlier j k below) [
  | inl before ↦ have j name before at none
  | inr here ↦
      let same : v.name ≡ name = some_same v.name name (sym (named_at vars k v lt is)
      ∙ (ap (slice_get (map (λ v. v.name) vars)) (sym here) ∙ at)) in
      not_none_of (right_of pairs v.name) paired (ap (right_of pairs) same ∙ none)
]

pub first_found : (vars : List Variable) (pairs : List (Name × Name)) (place k : ℕ) (v : Variable) → k < length vars
    → v ≡ get_or vars k v
    → is_some (right_of pairs v.name) ≡ false → HavePairs vars pairs k → IsFirstVariable vars pairs place
    (Some (place, k, v.name))
first_found vars pairs place k v lt is none have = (
  (refl, named_at vars k v lt is, none_of (right_of pairs v.name) none),
  λ i j name h.
      inr (h.0, later j (λ below. have j name below h.1 h.2)),
)
  where
    later : (j : ℕ) → (j < k → ⊥) → k ≤ j
    later j not = omega (arith, not)

pub none_found : (vars : List Variable) (pairs : List (Name × Name)) (place k : ℕ) → length vars ≤ k
    → HavePairs vars pairs k → IsFirstVariable vars pairs place None
none_found vars pairs place k le have i j name h =
    let within : j < length (map (λ v. v.name) vars) = (place_at (map (λ v. v.name) vars) j name h.1).0 in
    have j name (omega (arith, le, within, longer)) h.1 h.2
  where
    longer : length (map (λ v. v.name) vars) ≡ length vars
    longer = grind (arith, common_steps)
