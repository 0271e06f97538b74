-- Expanding a flat text again leaves it as it is.
use Rattle.std.proofs.Common.{◌≡◌, List, [], ◌∷◌, Option, map, find, bytes_eq, refl, sym, ap, ◌∙◌, subst, MatchOption}
use Rattle.std.specs.Prelude.{None, Some, All}
use mathlib.Core.Logic.{inl, inr}
use Rattle.std.specs.Option.{option_map}
use Rattle.std.proofs.lemmas.List.Elements.{All-nil, All-cons, All-head, All-tail, All-weaker}
use Rattle.prism_syntax.specs.declared.expressions.Expr.{Expr}
use Rattle.prism_syntax.specs.declared.expressions.Expr.TheVariants as e
use Rattle.prism_syntax.specs.declared.commands.Branch.{Branch}
use Rattle.prism_syntax.specs.declared.commands.Command.{Command}
use Rattle.prism_syntax.specs.declared.models.ConstText.{ConstText}
use Rattle.prism_syntax.specs.declared.models.Named.{Named}
use Rattle.prism_syntax.specs.declared.models.Variable.{Variable}
use Rattle.prism_syntax.specs.declared.models.Module.{Module}
use Rattle.prism_syntax.specs.declared.models.Module.TheVariants.{Written, Renamed}
use Rattle.prism_syntax.specs.declared.models.ModelText.{ModelText}
use Rattle.prism_syntax.specs.declared.models.FlatText.{FlatText}
use Rattle.prism_syntax.specs.Replaced.{replaced}
use Rattle.prism_names.specs.First.{Name}
use Rattle.prism_names.specs.Names.{names_of}
use Rattle.module_expand.specs.declared.fault.ExpandFault.{ExpandFault}
use Rattle.module_expand.specs.Expanded.{stands_for, with_body, AreExpanded}
use Rattle.module_expand.specs.Renamed.{no_names, right_of, as_tree, renamed, copied_variable, copied_set, copied_branch, copied_command, variables_of, commands_of}
use Rattle.module_expand.specs.Flat.{source_of, flat_const, flat_module, IsFlat}
use Rattle.module_expand.specs.Refusals.{IsRefused, place_of, renamed_to_formula}
use Rattle.module_expand.proofs.FirstLemmas.{some_same, not_none}
use Rattle.module_expand.proofs.FormulaLemmas.{unplaced_trees}
use Rattle.module_expand.proofs.FlatFormedLemmas.{found_holds}
use Rattle.prism_print.specs.Reading.{as_model}
use Rattle.prism_print.proofs.CleanLemmas.{Passes, IsClean, names-truth, names-name, names-paren, names_replaced, unchanged}
use Rattle.prism_print.proofs.InductionLemmas.{HasGood, stands_good}
use Rattle.prism_print.proofs.RefusedLemmas.{is_accepted, none_told, rights_unplaced}

-- a change that leaves what it has changed leaves each item that it has changed
map_again : {X : Type 0} (f : X → X) → ((x : X) → f (f x) ≡ f x) → (xs : List X) → map f (map f xs) ≡ map f xs
map_again f again [] = refl
map_again f again (x ∷ xs) = let one = again x in let rest = map_again f again xs in λ i. one i ∷ rest i

-- and what is made of other items
map_after : {X Y : Type 0} (f : Y → Y) (g : X → Y) → ((x : X) → f (g x) ≡ g x) → (xs : List X) → map f (map g xs) ≡ map g xs
map_after f g again [] = refl
map_after f g again (x ∷ xs) = let one = again x in let rest = map_after f g again xs in λ i. one i ∷ rest i

map_twice : {X : Type 0} (f g : X → X) → ((x : X) → f (g (f x)) ≡ g (f x)) → (xs : List X) → map f (map g (map f xs)) ≡ map g (map f xs)
map_twice f g again [] = refl
map_twice f g again (x ∷ xs) = let one = again x in let rest = map_twice f g again xs in λ i. one i ∷ rest i

fixed : {X : Type 0} (f : X → X) → ((x : X) → f (f x) ≡ f x) → (xs ys : List X) → ys ≡ map f xs → ys ≡ map f ys
fixed f again xs ys is = is ∙ (sym (map_again f again xs) ∙ ap (map f) (sym is))

option_again : (f : Expr → Expr) → ((x : Expr) → f (f x) ≡ f x) → (o : Option Expr) → option_map f (option_map f o) ≡ option_map f o
option_again f again None = refl
option_again f again (Some x) = ap Some (again x)

option_twice : (f g : Expr → Expr) → ((x : Expr) → f (g (f x)) ≡ g (f x)) → (o : Option Expr)
    → option_map f (option_map g (option_map f o)) ≡ option_map g (option_map f o)
option_twice f g again None = refl
option_twice f g again (Some x) = ap Some (again x)

-- a change of both ends of a range
abbrev both : (Expr → Expr) → Expr × Expr → Expr × Expr
both f r = (f r.0, f r.1)

same_action : (o : Option Name) → option_map (renamed no_names) o ≡ o
same_action None = refl
same_action (Some n) = refl

-- what is true of each item is true of all
pub each_passes : {X : Type 0} (P : X → Type 0) → ((x : X) → P x) → (xs : List X) → All P xs
each_passes P each [] = All-nil P
each_passes P each (x ∷ xs) = All-cons P x xs (each x) (each_passes P each xs)

-- a table that is the same after a second turn
module _ (by : Name → Option Expr) (again : (x : Expr) → replaced by (replaced by x) ≡ replaced by x) where
  const_again : (c : ConstText) → flat_const by (flat_const by c) ≡ flat_const by c
  const_again c = let value = option_again (replaced by) again c.value in λ i. record { name = c.name; sort = c.sort; value = value i }

  body_again : (f : Named) → with_body (replaced by) (with_body (replaced by) f) ≡ with_body (replaced by) f
  body_again f = let body = again f.body in λ i. record { name = f.name; body = body i }

  range_again : (o : Option (Expr × Expr)) → option_map (both (replaced by)) (option_map (both (replaced by)) o)
      ≡ option_map (both (replaced by)) o
  range_again None = refl
  range_again (Some r) = let low = again r.0 in let high = again r.1 in λ i. Some (low i, high i)

  variable_again : (v : Variable) → copied_variable no_names by (copied_variable no_names by v) ≡ copied_variable no_names by v
  variable_again v = let range = range_again v.range in let init = option_again (replaced by) again v.init in
      λ i. record { name = v.name; range = range i; init = init i }

  set_again : (s : Name × Expr) → copied_set no_names by (copied_set no_names by s) ≡ copied_set no_names by s
  set_again s = let value = again s.1 in λ i. (s.0, value i)

  branch_again : (b : Branch) → copied_branch no_names by (copied_branch no_names by b) ≡ copied_branch no_names by b
  branch_again b = let weight = option_again (replaced by) again b.weight in let sets = map_again (copied_set no_names by) set_again b.sets in
      λ i. record { weight = weight i; sets = sets i }

  command_again : (c : Command) → copied_command no_names by (copied_command no_names by c) ≡ copied_command no_names by c
  command_again c = let action = same_action (option_map (renamed no_names) c.action) in let guard = again c.guard in
      let branches = map_again (copied_branch no_names by) branch_again c.branches in
      λ i. record { action = action i; guard = guard i; branches = branches i }

  -- a copy under other names of what was made by the table
  module _ (names : Name → Option Name) (other : Name → Option Expr) (after : (x : Expr) → replaced by (replaced other (replaced by x)) ≡ replaced other (replaced by x)) where
    range_after : (o : Option (Expr × Expr))
        → option_map (both (replaced by)) (option_map (both (replaced other)) (option_map (both (replaced by)) o))
        ≡ option_map (both (replaced other)) (option_map (both (replaced by)) o)
    range_after None = refl
    range_after (Some r) = let low = after r.0 in let high = after r.1 in λ i. Some (low i, high i)

    variable_after : (v : Variable) → copied_variable no_names by (copied_variable names other (copied_variable no_names by v)) ≡ copied_variable names other (copied_variable no_names by v)
    variable_after v = let range = range_after v.range in let init = option_twice (replaced by) (replaced other) after v.init in
        λ i. record { name = renamed names v.name; range = range i; init = init i }

    set_after : (s : Name × Expr) → copied_set no_names by (copied_set names other (copied_set no_names by s)) ≡ copied_set names other (copied_set no_names by s)
    set_after s = let value = after s.1 in λ i. (renamed names s.0, value i)

    branch_after : (b : Branch) → copied_branch no_names by (copied_branch names other (copied_branch no_names by b)) ≡ copied_branch names other (copied_branch no_names by b)
    branch_after b = let weight = option_twice (replaced by) (replaced other) after b.weight in
        let sets = map_twice (copied_set no_names by) (copied_set names other) set_after b.sets in
        λ i. record { weight = weight i; sets = sets i }

    command_after : (c : Command) → copied_command no_names by (copied_command names other (copied_command no_names by c)) ≡ copied_command names other (copied_command no_names by c)
    command_after c = let action = same_action (option_map (renamed names) (option_map (renamed no_names) c.action)) in let guard = after c.guard in
        let branches = map_twice (copied_branch no_names by) (copied_branch names other) branch_after c.branches in
        λ i. record { action = action i; guard = guard i; branches = branches i }

-- a table gives names that stand for nothing
abbrev AreFree : (Name → Option Expr) → (Name → Option Name) → Type 0
AreFree by names = (n m : Name) → names n ≡ Some m → by m ≡ None

module _ (formulas trees : List Named) (is : AreExpanded formulas trees) where
  abbrev by : Name → Option Expr
  by = stands_for trees

  abbrev Free : Name → Type 0
  Free n = by n ≡ None

  -- what a good table makes of an expression is clean
  all_clean : (table : Name → Option Expr) → HasGood (IsClean by) trees table → (x : Expr) → IsClean by (replaced table x)
  all_clean table good x = names_replaced Free table x (each_passes (Passes Free table) passes (names_of x))
    where
      passes : (n : Name) → Passes Free table n
      passes n = elim (good n) [
        | inl none ↦ subst (λ o. MatchOption o (Free n) (λ t. All Free (names_of t))) (sym none.0) none.1
        | inr tree ↦ subst (λ o. MatchOption o (Free n) (λ t. All Free (names_of t))) (sym tree.1)
            (subst (All Free) (sym (names-paren tree.0)) tree.2)
      ]

  pub clean : (x : Expr) → IsClean by (replaced by x)
  clean = all_clean by (stands_good (IsClean by) (λ f. Unit {0}) formulas trees is
      (subst (All Free) (sym (names-truth _)) (All-nil Free))
      (λ table good f fits. all_clean table good f.body) (each_passes (λ f. Unit {0}) (λ f. tt) formulas))

  twice : (x : Expr) → replaced by (replaced by x) ≡ replaced by x
  twice x = unchanged by (replaced by x) (clean x)

  -- other names that stand for nothing leave a clean expression clean
  renamed_clean : (names : Name → Option Name) → AreFree by names → (x : Expr) → IsClean by x → IsClean by (replaced (as_tree names) x)
  renamed_clean names free x is_clean = names_replaced Free (as_tree names) x
      (All-weaker Free (Passes Free (as_tree names)) (λ n none. at n (names n) none (free n)) (names_of x) is_clean)
    where
      at : (n : Name) (o : Option Name) → Free n → ((m : Name) → o ≡ Some m → Free m)
          → MatchOption (option_map (λ m. e.Name m) o) (Free n) (λ t. All Free (names_of t))
      at n None none all = none
      at n (Some m) none all = subst (All Free) (sym (names-name m)) (All-cons Free m [] (all m refl) (All-nil Free))

  after_renaming : (names : Name → Option Name) → AreFree by names → (x : Expr)
      → replaced by (replaced (as_tree names) (replaced by x)) ≡ replaced (as_tree names) (replaced by x)
  after_renaming names free x = unchanged by (replaced (as_tree names) (replaced by x)) (renamed_clean names free (replaced by x) (clean x))

  rights_free : (pairs : List (Name × Name)) → All (λ p. place_of formulas p.1 ≡ None) pairs → AreFree by (right_of pairs)
  rights_free pairs all n m right = at (find (λ p. bytes_eq p.0 n) pairs) (λ p found. found_holds (λ p. place_of formulas p.1 ≡ None) (λ p. bytes_eq p.0 n) pairs p all found) right
    where
      at : (o : Option (Name × Name)) → ((p : Name × Name) → o ≡ Some p → place_of formulas p.1 ≡ None) → option_map (λ p. p.1) o ≡ Some m → Free m
      at None all_none h = absurd (not_none m (sym h))
      at (Some p) all_none h = unplaced_trees formulas trees is m (ap (place_of formulas) (sym (some_same p.1 m h)) ∙ all_none p refl)

  -- a module of the flat text is the same after a second turn
  module_again : (modules others : List Module) (d : Module) → renamed_to_formula (place_of formulas) d ≡ None
      → flat_module others by (flat_module modules by d) ≡ flat_module modules by d
  module_again modules others (Written title vars commands) none =
      let first = map_again (copied_variable no_names by) (variable_again by twice) vars in
      let second = map_again (copied_command no_names by) (command_again by twice) commands in
      λ i. Written title (first i) (second i)
  module_again modules others (Renamed title source pairs) none =
      let names : Name → Option Name = right_of pairs in
      let after = after_renaming (right_of pairs) (rights_free pairs (rights_unplaced (place_of formulas) pairs none)) in
      let first = map_twice (copied_variable no_names by) (copied_variable (right_of pairs) (as_tree (right_of pairs)))
      (variable_after by twice (right_of pairs) (as_tree (right_of pairs)) after) (variables_of (source_of modules source)) in
      let second = map_twice (copied_command no_names by) (copied_command (right_of pairs) (as_tree (right_of pairs)))
      (command_after by twice (right_of pairs) (as_tree (right_of pairs)) after) (commands_of (source_of modules source)) in
      λ i. Written title (first i) (second i)

  modules_again : (modules others ds : List Module) → All (λ d. renamed_to_formula (place_of formulas) d ≡ None) ds
      → map (flat_module others by) (map (flat_module modules by) ds) ≡ map (flat_module modules by) ds
  modules_again modules others [] none = refl
  modules_again modules others (d ∷ ds) none =
      let one = module_again modules others d (All-head (λ d. renamed_to_formula (place_of formulas) d ≡ None) d ds none) in
      let rest = modules_again modules others ds (All-tail (λ d. renamed_to_formula (place_of formulas) d ≡ None) d ds none) in
      λ i. one i ∷ rest i

-- the flat text of a model that is not refused is the flat text of itself
pub flat_again : (m : ModelText) (flat : FlatText) → IsFlat m flat → ((f : ExpandFault) → ¬ IsRefused m f) → IsFlat (as_model flat) flat
flat_again m flat is accepted = record {
  formulas = formulas;
  rest = λ i. record {
    consts = consts i;
    globals = globals i;
    formulas = flat.formulas;
    modules = modules i;
    labels = labels i;
  };
}
  where
    table : Name → Option Expr
    table = stands_for flat.formulas

    same : (x : Expr) → replaced table (replaced table x) ≡ replaced table x
    same = twice m.formulas flat.formulas is.formulas

    formulas : AreExpanded flat.formulas flat.formulas
    formulas = fixed (with_body (replaced table)) (body_again table same) m.formulas flat.formulas is.formulas

    consts : flat.consts ≡ map (flat_const table) flat.consts
    consts = fixed (flat_const table) (const_again table same) m.consts flat.consts (ap (λ f. f.consts) is.rest)

    globals : flat.globals ≡ map (copied_variable no_names table) flat.globals
    globals = fixed (copied_variable no_names table) (variable_again table same) m.globals flat.globals (ap (λ f. f.globals) is.rest)

    labels : flat.labels ≡ map (with_body (replaced table)) flat.labels
    labels = fixed (with_body (replaced table)) (body_again table same) m.labels flat.labels (ap (λ f. f.labels) is.rest)

    modules : flat.modules ≡ map (flat_module flat.modules table) flat.modules
    modules = let made : flat.modules ≡ map (flat_module m.modules table) m.modules = ap (λ f. f.modules) is.rest in
        made ∙ (sym (modules_again m.formulas flat.formulas is.formulas m.modules flat.modules m.modules
        (none_told (renamed_to_formula (place_of m.formulas)) m.modules (is_accepted m accepted).formula))
        ∙ ap (map (flat_module flat.modules table)) (sym made))
