-- The refusals of a flat model, as passes find them, and what holds where there is none.
use Rattle.std.proofs.Common.{◌≡◌, ℕ, List, [], ◌∷◌, Bor, length, nat_lt, Option, Bool, true, false, refl, sym, ap, ◌∙◌, subst, map, bytes_eq}
use Rattle.std.specs.Prelude.{None, Some, ◌⊎◌, ◌||◌}
use Rattle.std.specs.List.{list_any}
use Rattle.std.proofs.lemmas.List.{length-map}
use Rattle.chain_model.specs.Limits.{most_modules, most_variables, most_commands, most_branches}
use mathlib.Core.Logic.{inl, inr}
use Rattle.std.specs.Option.{option_or}
use Rattle.std.proofs.lemmas.Bool.{cases_Bool}
use Rattle.indexmap.specs.IndexMap.{get}
use Rattle.chain_model.specs.declared.values.Sort.{Sort}
use Rattle.chain_model.specs.declared.expressions.Typed.{Typed}
use Rattle.chain_model.specs.declared.outcome.TraceFault.{TraceFault}
use Rattle.chain_model.specs.Values.{Valued}
use Rattle.prism_syntax.specs.declared.expressions.Expr.{Expr}
use Rattle.prism_syntax.specs.declared.commands.Command.{Command}
use Rattle.prism_syntax.specs.declared.models.Variable.{Variable}
use Rattle.prism_syntax.specs.declared.models.FlatText.{FlatText}
use Rattle.prism_names.specs.First.{Name, first_some}
use Rattle.const_eval.specs.declared.consts.Constant.{Constant}
use Rattle.typed_trees.specs.declared.scopes.Scope.{Scope}
use Rattle.typed_trees.specs.Leaves.{shown, constant_leaf, variable_leaf, leaf_of}
use Rattle.typed_trees.specs.Trees.{tree_of, no_label}
use Rattle.typed_trees.specs.Scopes.{name_in, label_in, tree_in}
use Rattle.typed_trees.specs.Numbers.{constant_value}
use Rattle.typecheck.specs.declared.fault.TypeFault.{TypeFault}
use Rattle.typecheck.specs.declared.fault.TypeFault.TheVariants as fault
use Rattle.typecheck.specs.declared.fault.Item.{Item}
use Rattle.typecheck.specs.declared.fault.Item.TheVariants as item
use Rattle.typecheck.specs.Refusals.{Tells, IsOutOfMemory}
use Rattle.typecheck.specs.Numbers.{number_fault}
use Rattle.typecheck.specs.Declarations.{declared_variables, variable_sorts, declared_commands}
use Rattle.typecheck.specs.Uses.{unknown_in_model}
use Rattle.typecheck.specs.Items.{first_unfit}
use Rattle.typecheck.specs.Ranges.{first_variable_fault, first_empty, first_outside_range}
use Rattle.typecheck.specs.Writes.{owner_in, foreign_write, global_write, double_write, is_too_large}
use Rattle.typecheck.specs.Sorts.{sort_in, IsScope}
use Rattle.typecheck.specs.ModelRefusals.{TellsSorts, TellsNumbers, TellsWrites, IsTooLarge, IsRefused, sort_by}
use Rattle.typecheck.proofs.OverLemmas.{or-nothing}
use Rattle.typecheck.proofs.RefusalLemmas.{tells-later, tells-none}

-- what is told goes on where the later does
pub tells-map : {X : Type 0} (wrong : Option X) (Is : X → TypeFault → Type 0) (later more : TypeFault → Type 0) (f : TypeFault) → (later f → more f)
    → Tells wrong Is later f → Tells wrong Is more f
tells-map None Is later more f goes told = goes told
tells-map (Some x) Is later more f goes told = told

-- what the tables of a scope say is what its constants and variables say
module _ (scope : Scope) (consts : List (Name × Constant)) (vars : List (Name × Sort)) (is : IsScope scope consts vars) where
  pub variables-are : get bytes_eq scope.variables.now ≡ variable_leaf vars
  variables-are = λ i name. is.variables name i

  pub labels-are : label_in scope ≡ no_label
  labels-are = λ i name. is.labels name i

  pub names-are : name_in scope ≡ leaf_of consts vars
  names-are = λ i name. option_or (constant_leaf (is.constants i) name) (is.variables name i)

  pub trees-are : tree_in scope ≡ tree_of (leaf_of consts vars) no_label
  trees-are = λ i. tree_of (names-are i) (labels-are i)

  pub sorts-are : sort_in scope ≡ sort_by (variable_leaf vars)
  sorts-are = λ i. sort_by (variables-are i)

-- where there are no variables only constants are named
module _ (scope : Scope) (consts : List (Name × Constant)) (is : IsScope scope consts []) where
  pub constants-are : name_in scope ≡ constant_leaf consts
  constants-are =
      names-are scope consts [] is ∙ (λ i name. or-nothing (constant_leaf consts name) (variable_leaf [] name) refl i)

  pub constant_trees-are : tree_in scope ≡ tree_of (constant_leaf consts) no_label
  constant_trees-are = λ i. tree_of (constants-are i) (labels-are scope consts [] is i)

-- what names stand for and which trees expressions have, all at once
abbrev Meaning : Type 0
Meaning = (Name → Option Typed) × (Name → Option Typed) × (Name → Option Typed) × (Expr → Option Typed) × (Expr → Option Typed) × (Name → Option Sort)

module _ (flat : FlatText) (consts : List (Name × Constant)) (constants scope : Scope) (one : IsScope constants consts []) (two : IsScope scope consts (variable_sorts flat)) where
  abbrev by-tables : Meaning
  by-tables = (name_in constants, name_in scope, get bytes_eq scope.variables.now, tree_in constants, tree_in scope, sort_in scope)

  abbrev by-texts : Meaning
  by-texts = (
    constant_leaf consts,
    leaf_of consts (variable_sorts flat),
    variable_leaf (variable_sorts flat),
    tree_of (constant_leaf consts) no_label,
    tree_of (leaf_of consts (variable_sorts flat)) no_label,
    sort_by (variable_leaf (variable_sorts flat)),
  )

  meanings : by-tables ≡ by-texts
  meanings = λ i. (
    constants-are constants consts one i,
    names-are scope consts (variable_sorts flat) two i,
    variables-are scope consts (variable_sorts flat) two i,
    constant_trees-are constants consts one i,
    trees-are scope consts (variable_sorts flat) two i,
    sorts-are scope consts (variable_sorts flat) two i,
  )

  abbrev TellsBy : Meaning → (TypeFault → Type 0) → TypeFault → Type 0
  TellsBy m = TellsSorts m.0 m.1 m.2 m.3 m.4 m.5 flat

  -- what is told by tables is told by what they say
  pub sorts-told : (later : TypeFault → Type 0) (f : TypeFault) → TellsBy by-tables later f → TellsBy by-texts later f
  sorts-told later f told = subst (λ (m : Meaning). TellsBy m later f) meanings told

  pub sorts-told-or : (later : TypeFault → Type 0) (f : TypeFault) → IsOutOfMemory f ⊎ TellsBy by-tables later f → IsOutOfMemory f ⊎ TellsBy by-texts later f
  sorts-told-or later f told = subst (λ (m : Meaning). IsOutOfMemory f ⊎ TellsBy m later f) meanings told

  pub unknown-none : unknown_in_model (name_in constants) (name_in scope) (get bytes_eq scope.variables.now) flat ≡ None
      → unknown_in_model (constant_leaf consts) (leaf_of consts (variable_sorts flat)) (variable_leaf (variable_sorts flat)) flat ≡ None
  unknown-none none = subst (λ (m : Meaning). unknown_in_model m.0 m.1 m.2 flat ≡ None) meanings none

  pub unfit-none : first_unfit (tree_in constants) (tree_in scope) (sort_in scope) flat ≡ None
      → first_unfit (tree_of (constant_leaf consts) no_label) (tree_of (leaf_of consts (variable_sorts flat)) no_label) (sort_by (variable_leaf (variable_sorts flat))) flat ≡ None
  unfit-none none = subst (λ (m : Meaning). first_unfit m.3 m.4 m.5 flat ≡ None) meanings none

-- two causes in a row, and three
module _ {X Y : Type 0} (one : Option X) (IsOne : X → TypeFault → Type 0) (two : Option Y) (IsTwo : Y → TypeFault → Type 0) (f : TypeFault) where
  pub both-map : (later more : TypeFault → Type 0) → (later f → more f) → Tells one IsOne (Tells two IsTwo later) f → Tells one IsOne (Tells two IsTwo more) f
  both-map later more goes told =
      tells-map one IsOne (Tells two IsTwo later) (Tells two IsTwo more) f (tells-map two IsTwo later more f goes) told

  pub both-later : (later : TypeFault → Type 0) → one ≡ None → two ≡ None → later f → Tells one IsOne (Tells two IsTwo later) f
  both-later later first second told =
      tells-later one IsOne (Tells two IsTwo later) f first (tells-later two IsTwo later f second told)

  pub both-none : (later : TypeFault → Type 0) → one ≡ None → two ≡ None → Tells one IsOne (Tells two IsTwo later) f → later f
  both-none later first second told =
      tells-none two IsTwo later f second (tells-none one IsOne (Tells two IsTwo later) f first told)

module _ (flat : FlatText) (consts : List (Name × Constant)) where
  abbrev pub values : Expr → Valued
  values = constant_value consts

  abbrev pub vars : List Variable
  vars = map (λ v. v.1) (declared_variables flat)

  abbrev pub numbered : List (ℕ × Command)
  numbered = declared_commands flat

  abbrev pub commands : List Command
  commands = map (λ c. c.1) (declared_commands flat)

  abbrev pub owners : Name → Option (Option ℕ)
  owners = owner_in (declared_variables flat)

  abbrev pub unknown : Option Name
  unknown = unknown_in_model (constant_leaf consts) (leaf_of consts (variable_sorts flat)) (variable_leaf (variable_sorts flat)) flat

  abbrev pub unfit : Option Item
  unfit = first_unfit (tree_of (constant_leaf consts) no_label) (tree_of (leaf_of consts (variable_sorts flat)) no_label) (sort_by (variable_leaf (variable_sorts flat))) flat

  abbrev HasName : Name → TypeFault → Type 0
  HasName name g = g ≡ fault.UnknownName name

  abbrev HasItem : Item → TypeFault → Type 0
  HasItem item g = g ≡ fault.WrongType item

  abbrev HasNumber : ℕ × TraceFault → TypeFault → Type 0
  HasNumber found g = g ≡ fault.BadNumber (item.Variable (shown found.0)) (number_fault found.1)

  abbrev HasRange : Name → TypeFault → Type 0
  HasRange name g = g ≡ fault.BadRange name

  abbrev HasStart : Name → TypeFault → Type 0
  HasStart name g = g ≡ fault.InitOutside name

  abbrev HasForeign : Name → TypeFault → Type 0
  HasForeign name g = g ≡ fault.ForeignWrite name

  abbrev HasGlobal : Name → TypeFault → Type 0
  HasGlobal name g = g ≡ fault.GlobalInSync name

  abbrev HasDouble : Name → TypeFault → Type 0
  HasDouble name g = g ≡ fault.WrittenTwice name

  abbrev pub AtWrites : TypeFault → Type 0
  AtWrites = TellsWrites owners numbered commands (IsTooLarge flat)

  abbrev pub AtNumbers : TypeFault → Type 0
  AtNumbers = TellsNumbers values vars AtWrites

  module _ (f : TypeFault) where
    abbrev Refused : Type 0
    Refused = IsOutOfMemory f ⊎ IsRefused flat consts f

    -- what the sorts tell
    pub at-sorts : IsOutOfMemory f ⊎ Tells unknown HasName (Tells unfit HasItem (λ _. ⊥)) f → Refused
    at-sorts (inl out) = inl out
    at-sorts (inr told) = inr (both-map unknown HasName unfit HasItem f (λ _. ⊥) AtNumbers (λ never. absurd never) told)

    module _ (known : unknown ≡ None) (fit : unfit ≡ None) where
      -- what the numbers of variables tell
      pub at-numbers : IsOutOfMemory f ⊎ TellsNumbers values vars (λ _. ⊥) f → Refused
      at-numbers (inl out) = inl out
      at-numbers (inr told) =
          inr (both-later unknown HasName unfit HasItem f AtNumbers known fit
          (both-map (first_variable_fault values vars) HasNumber (first_empty values vars) HasRange f
          (Tells (first_outside_range values vars) HasStart (λ _. ⊥)) (Tells (first_outside_range values vars) HasStart AtWrites)
          (tells-map (first_outside_range values vars) HasStart (λ _. ⊥) AtWrites f (λ never. absurd never)) told))

      module _ (valued : first_variable_fault values vars ≡ None) (ranged : first_empty values vars ≡ None) (within : first_outside_range values vars ≡ None) where
        from-writes : AtWrites f → IsRefused flat consts f
        from-writes told =
            both-later unknown HasName unfit HasItem f AtNumbers known fit
            (both-later (first_variable_fault values vars) HasNumber (first_empty values vars) HasRange f
            (Tells (first_outside_range values vars) HasStart AtWrites) valued ranged
            (tells-later (first_outside_range values vars) HasStart AtWrites f within told))

        -- what the writes tell
        pub at-writes : IsOutOfMemory f ⊎ TellsWrites owners numbered commands (λ _. ⊥) f → Refused
        at-writes (inl out) = inl out
        at-writes (inr told) =
            inr (from-writes (both-map (first_some (foreign_write owners) numbered) HasForeign (first_some (global_write owners) commands) HasGlobal f
            (Tells (first_some double_write commands) HasDouble (λ _. ⊥)) (Tells (first_some double_write commands) HasDouble (IsTooLarge flat))
            (tells-map (first_some double_write commands) HasDouble (λ _. ⊥) (IsTooLarge flat) f (λ never. absurd never)) told))

        module _ (own : first_some (foreign_write owners) numbered ≡ None) (unwritten : first_some (global_write owners) commands ≡ None)
            (once : first_some double_write commands ≡ None) where
          -- what the limits tell
          pub at-limits : IsTooLarge flat f → Refused
          at-limits told =
              inr (from-writes (both-later (first_some (foreign_write owners) numbered) HasForeign (first_some (global_write owners) commands) HasGlobal f
              (Tells (first_some double_write commands) HasDouble (IsTooLarge flat)) own unwritten
              (tells-later (first_some double_write commands) HasDouble (IsTooLarge flat) f once told)))

          -- where nothing is wrong nothing is told
          pub nothing-told : is_too_large flat ≡ false → IsRefused flat consts f → ⊥
          nothing-told small told =
              let four : IsTooLarge flat f =
              tells-none (first_some double_write commands) HasDouble (IsTooLarge flat) f once
              (both-none (first_some (foreign_write owners) numbered) HasForeign (first_some (global_write owners) commands) HasGlobal f
              (Tells (first_some double_write commands) HasDouble (IsTooLarge flat)) own unwritten
              (tells-none (first_outside_range values vars) HasStart AtWrites f within
              (both-none (first_variable_fault values vars) HasNumber (first_empty values vars) HasRange f
              (Tells (first_outside_range values vars) HasStart AtWrites) valued ranged
              (both-none unknown HasName unfit HasItem f AtNumbers known fit told)))) in
              let wrong : true ≡ false = sym four.1 ∙ small in
              let never : ⊥ = cc in never

  -- what no fault is told of
  pub record Accepted : Type 0 where
    pub fit : unfit ≡ None
    pub valued : first_variable_fault values vars ≡ None
    pub ranged : first_empty values vars ≡ None
    pub within : first_outside_range values vars ≡ None
    pub own : first_some (foreign_write owners) numbered ≡ None
    pub unwritten : first_some (global_write owners) commands ≡ None
    pub once : first_some double_write commands ≡ None
    pub small : is_too_large flat ≡ false

  untold : {X : Type 0} (wrong : Option X) (variant : X → TypeFault) (later : TypeFault → Type 0)
      → ((f : TypeFault) → Tells wrong (λ x g. g ≡ variant x) later f → ⊥) → (wrong ≡ None) × ((f : TypeFault) → later f → ⊥)
  untold None variant later never = (refl, never)
  untold (Some x) variant later never = absurd (never (variant x) refl)

  within-limits : ((f : TypeFault) → IsTooLarge flat f → ⊥) → is_too_large flat ≡ false
  within-limits never = elim (cases_Bool (is_too_large flat)) [
    | inl large ↦ absurd (never fault.TooLarge (refl, large))
    | inr small ↦ small
  ]

  -- where no fault is told nothing is wrong
  pub accepted : ((f : TypeFault) → IsRefused flat consts f → ⊥) → Accepted
  accepted never =
      let one = untold unknown (λ name. fault.UnknownName name) (Tells unfit HasItem AtNumbers) never in
      let two = untold unfit (λ item. fault.WrongType item) AtNumbers one.1 in
      let three = untold (first_variable_fault values vars) (λ found. fault.BadNumber (item.Variable (shown found.0)) (number_fault found.1))
      (Tells (first_empty values vars) HasRange (Tells (first_outside_range values vars) HasStart AtWrites)) two.1 in
      let four = untold (first_empty values vars) (λ name. fault.BadRange name) (Tells (first_outside_range values vars) HasStart AtWrites) three.1 in
      let five = untold (first_outside_range values vars) (λ name. fault.InitOutside name) AtWrites four.1 in
      let six = untold (first_some (foreign_write owners) numbered) (λ name. fault.ForeignWrite name)
      (Tells (first_some (global_write owners) commands) HasGlobal (Tells (first_some double_write commands) HasDouble (IsTooLarge flat))) five.1 in
      let seven = untold (first_some (global_write owners) commands) (λ name. fault.GlobalInSync name) (Tells (first_some double_write commands) HasDouble (IsTooLarge flat)) six.1 in
      let eight = untold (first_some double_write commands) (λ name. fault.WrittenTwice name) (IsTooLarge flat) seven.1 in
      record {
        fit = two.0;
        valued = three.0;
        ranged = four.0;
        within = five.0;
        own = six.0;
        unwritten = seven.0;
        once = eight.0;
        small = within-limits eight.1;
      }

-- variables and commands that are listed are those of the text
module _ (flat : FlatText) (consts : List (Name × Constant)) (vs : List Variable) (is : vs ≡ map (λ v. v.1) (declared_variables flat)) where
  pub numbers-same : (later : TypeFault → Type 0) (f : TypeFault) → IsOutOfMemory f ⊎ TellsNumbers (constant_value consts) vs later f
      → IsOutOfMemory f ⊎ TellsNumbers (constant_value consts) (map (λ v. v.1) (declared_variables flat)) later f
  numbers-same later f told = subst (λ (ws : List Variable). IsOutOfMemory f ⊎ TellsNumbers (constant_value consts) ws later f) is told

  pub fault-same : first_variable_fault (constant_value consts) vs ≡ None → first_variable_fault (constant_value consts) (map (λ v. v.1) (declared_variables flat)) ≡ None
  fault-same none = sym (ap (first_variable_fault (constant_value consts)) is) ∙ none

  pub empty-same : first_empty (constant_value consts) vs ≡ None → first_empty (constant_value consts) (map (λ v. v.1) (declared_variables flat)) ≡ None
  empty-same none = sym (ap (first_empty (constant_value consts)) is) ∙ none

  pub outside-same : first_outside_range (constant_value consts) vs ≡ None → first_outside_range (constant_value consts) (map (λ v. v.1) (declared_variables flat)) ≡ None
  outside-same none = sym (ap (first_outside_range (constant_value consts)) is) ∙ none

module _ (flat : FlatText) (os : Name → Option (Option ℕ)) where
  pub writes-same : (ns : List (ℕ × Command)) (cs : List Command) → os ≡ owner_in (declared_variables flat) → ns ≡ declared_commands flat
      → cs ≡ map (λ c. c.1) (declared_commands flat) → (later : TypeFault → Type 0) (f : TypeFault) → IsOutOfMemory f ⊎ TellsWrites os ns cs later f
      → IsOutOfMemory f ⊎ TellsWrites (owner_in (declared_variables flat)) (declared_commands flat) (map (λ c. c.1) (declared_commands flat)) later f
  writes-same ns cs one two three later f told =
      subst (λ (o : Name → Option (Option ℕ)). IsOutOfMemory f ⊎ TellsWrites o (declared_commands flat) (map (λ c. c.1) (declared_commands flat)) later f) one
      (subst (λ (n : List (ℕ × Command)). IsOutOfMemory f ⊎ TellsWrites os n (map (λ c. c.1) (declared_commands flat)) later f) two
      (subst (λ (c : List Command). IsOutOfMemory f ⊎ TellsWrites os ns c later f) three told))

  pub foreign-same : (ns : List (ℕ × Command)) → os ≡ owner_in (declared_variables flat) → ns ≡ declared_commands flat
      → first_some (foreign_write os) ns ≡ None → first_some (foreign_write (owner_in (declared_variables flat))) (declared_commands flat) ≡ None
  foreign-same ns one two none = sym (λ i. first_some (foreign_write (one i)) (two i)) ∙ none

  pub global-same : (cs : List Command) → os ≡ owner_in (declared_variables flat) → cs ≡ map (λ c. c.1) (declared_commands flat)
      → first_some (global_write os) cs ≡ None → first_some (global_write (owner_in (declared_variables flat))) (map (λ c. c.1) (declared_commands flat)) ≡ None
  global-same cs one two none = sym (λ i. first_some (global_write (one i)) (two i)) ∙ none

pub double-same : (flat : FlatText) (cs : List Command) → cs ≡ map (λ c. c.1) (declared_commands flat)
    → first_some double_write cs ≡ None → first_some double_write (map (λ c. c.1) (declared_commands flat)) ≡ None
double-same flat cs is none = sym (ap (first_some double_write) is) ∙ none

any-mapped : {X Y : Type 0} (g : X → Y) (p : Y → Bool) (xs : List X) → list_any p (map g xs) ≡ list_any (λ x. p (g x)) xs
any-mapped g p [] = refl
any-mapped g p (x ∷ xs) = ap (λ b. p (g x) || b) (any-mapped g p xs)

-- whether there are too many is a matter of the text
pub large-same : (flat : FlatText) (n : ℕ) (vs : List (Option ℕ × Bor Variable)) (cs : List (ℕ × Bor Command)) → n ≡ length flat.modules → map {B = Option ℕ × Variable} (λ v. (v.0, v.1.now)) vs ≡ declared_variables flat
    → map {B = ℕ × Command} (λ c. (c.0, c.1.now)) cs ≡ declared_commands flat
    → (nat_lt most_modules n || (nat_lt most_variables (length vs) || (nat_lt most_commands (length cs)
    || list_any (λ c. nat_lt most_branches (length c.1.now.branches)) cs))) ≡ is_too_large flat
large-same flat n vs cs none one two =
    (λ i. nat_lt most_modules (none i) || (nat_lt most_variables (long-vs i) || (nat_lt most_commands (long-cs i) || wide i)))
  where
    long-vs : length vs ≡ length (declared_variables flat)
    long-vs = sym (length-map {B = Option ℕ × Variable} vs (λ v. (v.0, v.1.now))) ∙ ap length one

    long-cs : length cs ≡ length (declared_commands flat)
    long-cs = sym (length-map {B = ℕ × Command} cs (λ c. (c.0, c.1.now))) ∙ ap length two

    wide : list_any (λ c. nat_lt most_branches (length c.1.now.branches)) cs ≡ list_any (λ c. nat_lt most_branches (length c.1.branches)) (declared_commands flat)
    wide = sym (any-mapped {Y = ℕ × Command} (λ c. (c.0, c.1.now)) (λ c. nat_lt most_branches (length c.1.branches)) cs) ∙ ap (list_any (λ c. nat_lt most_branches (length c.1.branches))) two
