-- Where expansion refuses nothing, no renaming gives the name of a formula.
use Rattle.std.proofs.Common.{◌≡◌, ℕ, zero, suc, ◌<◌, List, [], ◌∷◌, Option, length, map, find, get_or, arith, cond, refl, sym, ap, ◌∙◌, subst, MatchOption, Contains, is_some, false}
use Rattle.std.specs.Prelude.{None, Some, All}
use mathlib.Core.Logic.{inl, inr}
use Rattle.std.specs.Option.{option_or}
use Rattle.std.proofs.lemmas.Bool.{cases_Bool, cases_lt}
use Rattle.std.proofs.lemmas.List.{get_or_past}
use Rattle.std.proofs.lemmas.List.Elements.{All-nil, All-cons}
use Rattle.prism_syntax.specs.declared.models.Named.{Named}
use Rattle.prism_syntax.specs.declared.models.Module.{Module}
use Rattle.prism_syntax.specs.declared.models.ModelText.{ModelText}
use Rattle.prism_names.specs.First.{Name, first_some}
use Rattle.name_graph.specs.Graph.{Graph, Reaches, uses, through, IsFirstCycle, HasNoCycle}
use Rattle.module_expand.specs.declared.fault.ExpandFault.{ExpandFault}
use Rattle.module_expand.specs.declared.fault.ExpandFault.TheVariants as fault
use Rattle.module_expand.specs.Duplicates.{duplicate_of}
use Rattle.module_expand.specs.Refusals.{Tells, TellsCycle, TellsLeftOut, TellsSize, IsRefusedAtModules, IsRefused, uses_of, place_of, missing_source, IsNotAfter, IsLeftOut, IsFirstLeftOut, LeavesOutNone, renamed_twice, renamed_to_formula}
use Rattle.module_expand.proofs.FirstLemmas.{some_or_none, not_none}

-- a place that uses another is there
used_within : (graph : Graph) (i j : ℕ) → Contains (get_or graph i []) j → i < length graph
used_within graph i j used = elim (cases_lt i (length graph)) [
  | inl below ↦ below
  | inr past ↦ (let empty : length (get_or graph i []) ≡ 0 = ap length (get_or_past graph i [] past) in
      absurd (omega (arith, used.1, empty)))
]

reaches_within : (graph : Graph) (i j : ℕ) → Reaches graph i j → i < length graph
reaches_within graph i j (uses {i = a} {j = b} used) = used_within graph i j used
reaches_within graph i j (through {i = a} {j = b} {k = c} used rest) = used_within graph i b used

-- where no place is the first to reach itself, none does
no_cycle : (graph : Graph) → ((i : ℕ) → ¬ IsFirstCycle graph i) → HasNoCycle graph
no_cycle graph none i = below (suc i) i (omega arith)
  where
    below : (k j : ℕ) → j < k → ¬ Reaches graph j j
    below zero j lt r = absurd (omega (arith, lt))
    below (suc k) j lt r = none j (record {
      within = reaches_within graph j j r;
      cycle = r;
      first = λ h less. below k h (omega (arith, less, lt));
    })

not_after : (i j a b : ℕ) → (a < i → ⊥) → (i ≡ a → b < j → ⊥) → IsNotAfter i j a b
not_after i j a b not_before not_left = elim (cases_lt i a) [
  | inl less ↦ inl less
  | inr past ↦ (let same : i ≡ a = omega (arith, past, not_before) in
      elim (cases_lt b j) [
        | inl left ↦ absurd (not_left same left)
        | inr right ↦ inr (same, right)
      ])
]

-- where no variable is the first that is left out, none is
none_left_out : (modules : List Module) → ((name : Name) → ¬ IsFirstLeftOut modules name) → LeavesOutNone modules
none_left_out modules none i j name = rows (suc i) i (omega arith) j name
  where
    row : (i : ℕ) → ((a b : ℕ) (other : Name) → a < i → ¬ IsLeftOut modules a b other) → (k j : ℕ) → j < k → (name : Name) → ¬ IsLeftOut modules i j name
    row i earlier zero j lt name left = absurd (omega (arith, lt))
    row i earlier (suc k) j lt name left = none name (record {
      i = i;
      j = j;
      left = left;
      first = λ a b other h. not_after i j a b (λ less. earlier a b other less h)
          (λ same less. row i earlier k b (omega (arith, less, lt)) other (subst (λ n. IsLeftOut modules n b other) (sym same) h));
    })

    rows : (k i : ℕ) → i < k → (j : ℕ) (name : Name) → ¬ IsLeftOut modules i j name
    rows zero i lt j name left = absurd (omega (arith, lt))
    rows (suc k) i lt j name left = row i (λ a b other less. rows k a (omega (arith, less, lt)) b other) (suc j) j (omega arith) name left

-- a refusal that is not told: nothing is wrong here, and no later fault is told
abbrev Untold : (ExpandFault → Type 0) → Type 0
Untold refused = (f : ExpandFault) → ¬ refused f

nothing_wrong : (wrong : Option Name) (variant : Name → ExpandFault) (later : ExpandFault → Type 0) → Untold (Tells wrong variant later) → wrong ≡ None
nothing_wrong wrong variant later untold = elim (some_or_none wrong) [
  | inl s ↦ absurd (untold (variant s.0) (subst (λ o. MatchOption o (later (variant s.0)) (λ n. variant s.0 ≡ variant n)) (sym s.1) refl))
  | inr none ↦ none
]

later_untold : (wrong : Option Name) (variant : Name → ExpandFault) (later : ExpandFault → Type 0) → Untold (Tells wrong variant later) → Untold later
later_untold wrong variant later untold f h = untold f (subst (λ o. MatchOption o (later f) (λ n. f ≡ variant n))
    (sym (nothing_wrong wrong variant later untold)) h)

cycle_untold : (formulas : List Named) (later : ExpandFault → Type 0) → Untold (TellsCycle formulas later) → Untold later
cycle_untold formulas later untold f h =
    untold f (inr (no_cycle (uses_of formulas) (λ i first. untold (fault.FormulaCycle (get_or (map (λ g. g.name) formulas) i [])) (inl (i, first, refl))), h))

left_untold : (modules : List Module) (later : ExpandFault → Type 0) → Untold (TellsLeftOut modules later) → Untold later
left_untold modules later untold f h =
    untold f (inr (none_left_out modules (λ name first. untold (fault.RenameLeavesVariable name) (inl (name, first, refl))), h))

-- what is known of a model that expansion does not refuse
pub record IsAccepted (m : ModelText) : Type 0 where
  pub duplicate : duplicate_of m ≡ None
  pub left : LeavesOutNone m.modules
  pub formula : first_some (renamed_to_formula (place_of m.formulas)) m.modules ≡ None
  pub size : (f : ExpandFault) → ¬ TellsSize m f

pub is_accepted : (m : ModelText) → ((f : ExpandFault) → ¬ IsRefused m f) → IsAccepted m
is_accepted m accepted =
    let formula : ExpandFault → Type 0 = Tells (first_some (renamed_to_formula (place_of m.formulas)) m.modules) fault.RenameToFormula (TellsSize m) in
    let twice : ExpandFault → Type 0 = Tells (first_some renamed_twice m.modules) fault.RenameTwice formula in
    let at_left = later_untold (first_some (missing_source m.modules) m.modules) fault.NoSuchModule (TellsLeftOut m.modules twice)
    (cycle_untold m.formulas (IsRefusedAtModules m)
    (later_untold (duplicate_of m) fault.Duplicate (TellsCycle m.formulas (IsRefusedAtModules m)) accepted)) in
    let at_formula = later_untold (first_some renamed_twice m.modules) fault.RenameTwice formula (left_untold m.modules twice at_left) in
    record {
      duplicate = nothing_wrong (duplicate_of m) fault.Duplicate (TellsCycle m.formulas (IsRefusedAtModules m)) accepted;
      left = none_left_out m.modules (λ name first. at_left (fault.RenameLeavesVariable name) (inl (name, first, refl)));
      formula = nothing_wrong (first_some (renamed_to_formula (place_of m.formulas)) m.modules) fault.RenameToFormula (TellsSize m) at_formula;
      size = later_untold (first_some (renamed_to_formula (place_of m.formulas)) m.modules) fault.RenameToFormula (TellsSize m) at_formula;
    }

-- where nothing is told of some items, nothing is told of any
pub none_told : {X Y : Type 0} (tell : X → Option Y) (xs : List X) → first_some tell xs ≡ None → All (λ x. tell x ≡ None) xs
none_told tell [] none = All-nil (λ x. tell x ≡ None)
none_told tell (x ∷ xs) none = elim (some_or_none (tell x)) [
  | inl s ↦ absurd (not_none s.0 (sym (ap (λ o. option_or o (first_some tell xs)) s.1) ∙ none))
  | inr here ↦ All-cons (λ y. tell y ≡ None) x xs here (none_told tell xs (sym (ap (λ o. option_or o (first_some tell xs)) here) ∙ none))
]

no_place : (o : Option ℕ) → is_some o ≡ false → o ≡ None
no_place None h = refl
no_place (Some i) h = absurd (cc)

-- where no right name has a place, none of the pairs gives a name with a place
pub rights_unplaced : (place : Name → Option ℕ) (pairs : List (Name × Name)) → find (λ name. is_some (place name)) (map (λ p. p.1) pairs) ≡ None
    → All (λ p. place p.1 ≡ None) pairs
rights_unplaced place [] none = All-nil (λ p. place p.1 ≡ None)
rights_unplaced place (p ∷ pairs) none = elim (cases_Bool (is_some (place p.1))) [
  | inl there ↦ absurd (not_none p.1 (sym (ap (λ b. cond b (Some p.1) (find (λ name. is_some (place name)) (map (λ q. q.1) pairs))) there) ∙ none))
  | inr not_there ↦ All-cons (λ q. place q.1 ≡ None) p pairs (no_place (place p.1) not_there)
      (rights_unplaced place pairs (sym (ap (λ b. cond b (Some p.1) (find (λ name. is_some (place name)) (map (λ q. q.1) pairs))) not_there) ∙ none))
]
