-- The chain of refusals: one fault at most, and how a look for one decides it.
use Rattle.std.proofs.Common.{◌≡◌, ℕ, ◌+◌, ◌<◌, ◌≤◌, Option, List, [], ◌∷◌, ◌++◌, map, length, take, drop, ap, sym, ◌∙◌, arith, get_or, add-one}
use Rattle.std.proofs.lemmas.List.{take_all, take-append-drop}
use Rattle.std.proofs.Math.Seq.{drop-cons}
use Rattle.std.specs.Option.{option_or}
use Rattle.std.specs.Prelude.{None, Some}
use mathlib.Core.Logic.{inl, inr}
use Rattle.prism_syntax.specs.declared.models.Named.{Named}
use Rattle.prism_syntax.specs.declared.models.Module.{Module}
use Rattle.prism_syntax.specs.declared.models.Module.TheVariants.{Written, Renamed}
use Rattle.prism_syntax.specs.declared.models.ModelText.{ModelText}
use Rattle.prism_names.specs.First.{Name, first_some}
use Rattle.name_graph.specs.Graph.{Graph, IsFirstCycle}
use Rattle.module_expand.proofs.FirstLemmas.{not_none, some_same, some_or_none, one_more}
use Rattle.module_expand.specs.declared.fault.ExpandFault.{ExpandFault}
use Rattle.module_expand.specs.declared.fault.ExpandFault.TheVariants as fault
use Rattle.module_expand.specs.Refusals.{Tells, TellsCycle, TellsLeftOut, TellsSize, uses_of, place_of, missing_source, IsFirstLeftOut, IsNotAfter, IsLeftOut, LeavesOut, name_at, renamed_twice, renamed_to_formula, HasOneRefusal}

-- one fault at most
abbrev HasOne : (ExpandFault → Type 0) → Type 0
HasOne P = (f g : ExpandFault) → P f → P g → f ≡ g

told_one : (wrong : Option Name) (variant : Name → ExpandFault) (later : ExpandFault → Type 0) → HasOne later
    → HasOne (Tells wrong variant later)
told_one None variant later one f g p q = one f g p q
told_one (Some n) variant later one f g p q = p ∙ sym q

-- no two places both come first
before_each_other : (graph : Graph) (i j : ℕ) → IsFirstCycle graph i → IsFirstCycle graph j → i < j → ⊥
before_each_other graph i j p q lt = q.first i lt p.cycle

one_first_cycle : (graph : Graph) (i j : ℕ) → IsFirstCycle graph i → IsFirstCycle graph j → i ≡ j
one_first_cycle graph i j p q =
    let not_below : i < j → ⊥ = before_each_other graph i j p q in
    let not_above : j < i → ⊥ = before_each_other graph j i q p in
    omega (arith, not_below, not_above)

cycle_one : (formulas : List Named) (later : ExpandFault → Type 0) → HasOne later → HasOne (TellsCycle formulas later)
cycle_one formulas later one f g (inl p) (inl q) = p.2
    ∙ (ap (λ i. fault.FormulaCycle (get_or (map (λ d. d.name) formulas) i [])) (one_first_cycle (uses_of formulas)
    p.0 q.0 p.1 q.1) ∙ sym q.2)
cycle_one formulas later one f g (inl p) (inr q) = absurd (q.0 p.0 p.1.cycle)
cycle_one formulas later one f g (inr p) (inl q) = absurd (p.0 q.0 q.1.cycle)
cycle_one formulas later one f g (inr p) (inr q) = one f g p.1 q.1

-- variables that don't stand after one another stand at the same places
same_places : (i j i' j' : ℕ) → IsNotAfter i j i' j' → IsNotAfter i' j' i j → (i ≡ i') × (j ≡ j')
same_places i j i' j' (inl a) (inl b) = absurd (omega (arith, a, b))
same_places i j i' j' (inl a) (inr b) = absurd (omega (arith, a, b.0))
same_places i j i' j' (inr a) (inl b) = absurd (omega (arith, a.0, b))
same_places i j i' j' (inr a) (inr b) = (a.0, omega (arith, a.1, b.1))

name_is : (modules : List Module) (i j : ℕ) (name : Name) → IsLeftOut modules i j name → name_at modules i j ≡ Some name
name_is modules i j name h = left h.1.0 h.1.2
  where
    left : (d : Module) → LeavesOut modules d i j name → name_at modules i j ≡ Some name
    left (Written title vars commands) k = absurd k
    left (Renamed title source pairs) k = k.1

one_left : (modules : List Module) (name other : Name) → IsFirstLeftOut modules name → IsFirstLeftOut modules other
    → name ≡ other
one_left modules name other p q =
    let places = same_places p.i p.j q.i q.j (p.first q.i q.j other q.left) (q.first p.i p.j name p.left) in
    some_same name other (sym (name_is modules p.i p.j name p.left)
    ∙ (ap (λ i. name_at modules i p.j) places.0 ∙ (ap (λ j. name_at modules q.i j) places.1
    ∙ name_is modules q.i q.j other q.left)))

left_one : (modules : List Module) (later : ExpandFault → Type 0) → HasOne later → HasOne (TellsLeftOut modules later)
left_one modules later one f g (inl p) (inl q) = p.2
    ∙ (ap fault.RenameLeavesVariable (one_left modules p.0 q.0 p.1 q.1) ∙ sym q.2)
left_one modules later one f g (inl p) (inr q) = absurd (q.0 p.1.i p.1.j p.0 p.1.left)
left_one modules later one f g (inr p) (inl q) = absurd (p.0 q.1.i q.1.j q.0 q.1.left)
left_one modules later one f g (inr p) (inr q) = one f g p.1 q.1

size_one : (m : ModelText) → HasOne (TellsSize m)
size_one m f g p q = p.0 ∙ sym q.0

pub one_refusal : HasOneRefusal
one_refusal m =
    told_one _ fault.Duplicate _ (cycle_one m.formulas _
    (told_one (first_some (missing_source m.modules) m.modules) fault.NoSuchModule _
    (left_one m.modules _
    (told_one (first_some renamed_twice m.modules) fault.RenameTwice _
    (told_one (first_some (renamed_to_formula (place_of m.formulas)) m.modules) fault.RenameToFormula _
    (size_one m))))))

-- nothing is told of the items before, nor of this one
none_after : {X Y : Type 0} (tell : X → Option Y) (ys : List X) (x : X) → first_some tell ys ≡ None → tell x ≡ None
    → first_some tell (ys ++ (x ∷ [])) ≡ None
none_after tell [] x h here = ap (λ o. option_or o None) here
none_after tell (y ∷ ys) x h here = elim (some_or_none (tell y)) [
  | inl s ↦ absurd (not_none s.0 (sym (ap (λ o. option_or o (first_some tell ys)) s.1) ∙ h))
  | inr none ↦ ap (λ o. option_or o (first_some tell (ys ++ (x ∷ [])))) none
      ∙ none_after tell ys x (sym (ap (λ o. option_or o (first_some tell ys)) none) ∙ h) here
]

-- what is told of this item is told first
some_after : {X Y : Type 0} (tell : X → Option Y) (ys zs : List X) (x : X) (y : Y) → first_some tell ys ≡ None
    → tell x ≡ Some y
    → first_some tell (ys ++ (x ∷ zs)) ≡ Some y
some_after tell [] zs x y h here = ap (λ o. option_or o (first_some tell zs)) here
some_after tell (w ∷ ys) zs x y h here = elim (some_or_none (tell w)) [
  | inl s ↦ absurd (not_none s.0 (sym (ap (λ o. option_or o (first_some tell ys)) s.1) ∙ h))
  | inr none ↦ ap (λ o. option_or o (first_some tell (ys ++ (x ∷ zs)))) none
      ∙ some_after tell ys zs x y (sym (ap (λ o. option_or o (first_some tell ys)) none) ∙ h) here
]

pub told_none : {X Y : Type 0} (tell : X → Option Y) (xs : List X) (i : ℕ) (x : X) → i < length xs → x ≡ get_or xs i x
    → first_some tell (take i xs) ≡ None → tell x ≡ None → first_some tell (take (i + 1) xs) ≡ None
told_none tell xs i x lt is before here = ap (first_some tell) (one_more xs i x lt is) ∙ none_after tell (take i xs)
    x before here

pub told_here : {X Y : Type 0} (tell : X → Option Y) (xs : List X) (i : ℕ) (x : X) (y : Y) → i < length xs → x
    ≡ get_or xs i x
    → first_some tell (take i xs) ≡ None → tell x ≡ Some y → first_some tell xs ≡ Some y
told_here tell xs i x y lt is before here =
    ap (first_some tell) (sym (take-append-drop i xs) ∙ ap (λ z. take i xs ++ z) (drop_here xs i x lt is))
    ∙ some_after tell (take i xs) (drop (i + 1) xs) x y before here
  where
    drop_here : {X : Type 0} (ys : List X) (k : ℕ) (z : X) → k < length ys → z ≡ get_or ys k z → drop k ys ≡ z
        ∷ drop (k + 1) ys
    drop_here ys k z below same = drop-cons ys k z below ∙ (λ i. sym same i ∷ drop (sym (add-one k) i) ys)

pub told_all : {X Y : Type 0} (tell : X → Option Y) (xs : List X) (i : ℕ) → length xs ≤ i
    → first_some tell (take i xs) ≡ None → first_some tell xs ≡ None
told_all tell xs i le h = ap (first_some tell) (sym (take_all i xs le)) ∙ h
