-- Expanding makes no chain of two or more arrows where there was none.
use Rattle.std.proofs.Common.{◌≡◌, List, [], ◌∷◌, Option, map, true, sym, ap, subst, unwrap_or, ◌∙◌, refl}
use Rattle.std.specs.Prelude.{None, Some, All, find}
use mathlib.Core.Logic.{inl, inr}
use Rattle.std.specs.Option.{option_map}
use Rattle.std.proofs.lemmas.List.Elements.{All-nil, All-cons}
use Rattle.prism_syntax.specs.declared.labels.Labels.TheVariants.{Refused}
use Rattle.prism_syntax.specs.declared.tokens.Kind.TheVariants as k
use Rattle.prism_syntax.specs.declared.expressions.Expr.{Expr, map-Expr}
use Rattle.prism_syntax.specs.declared.expressions.Expr.TheVariants as e
use Rattle.prism_syntax.specs.declared.expressions.Expr.TheOpen.{Expr-F}
use Rattle.prism_syntax.specs.declared.expressions.Expr.TheOpen as top
use Rattle.prism_syntax.specs.declared.expressions.Expr.TheViews.{roll-Expr}
use Rattle.prism_syntax.specs.declared.expressions.Expr.TheFolds.{ind-Expr}
use Rattle.prism_syntax.specs.declared.precedence.Precedence.TheVariants as rule
use Rattle.prism_syntax.specs.declared.commands.Branch.{Branch}
use Rattle.prism_syntax.specs.declared.commands.Command.{Command}
use Rattle.prism_syntax.specs.declared.models.ConstText.{ConstText}
use Rattle.prism_syntax.specs.declared.models.Named.{Named}
use Rattle.prism_syntax.specs.declared.models.Variable.{Variable}
use Rattle.prism_syntax.specs.declared.models.Module.{Module}
use Rattle.prism_syntax.specs.declared.models.Module.TheVariants.{Written, Renamed}
use Rattle.prism_syntax.specs.declared.models.ModelText.{ModelText}
use Rattle.prism_syntax.specs.declared.models.FlatText.{FlatText}
use Rattle.prism_syntax.specs.Replaced.{replaced}
use Rattle.prism_expression.proofs.RankLemmas.{bang, dash}
use Rattle.prism_limits.specs.Arrows.{HasLongChain, OneHasLongChain, arrows, in_operand, in_argument, in_paren, in_not, in_minus, in_condition, in_consequence, in_alternative}
use Rattle.prism_limits.specs.Arrows as arrow
use Rattle.prism_limits.proofs.LongChainLemmas.{level_has, call_has, paren_has, choice_has, sign_has, leaf_has}
use Rattle.prism_parser.specs.Models.{OneHas, in_first, in_later, HasLongOption, HasLongRange, HasLongConst, HasLongNamed, HasLongVariable, HasLongAssign, HasLongBranch, HasLongCommand, HasLongModule, HasLongModel, in_const, in_global, in_formula, in_module, in_label}
use Rattle.prism_names.specs.First.{Name}
use Rattle.module_expand.specs.Expanded.{stands_for, with_body}
use Rattle.module_expand.specs.Renamed.{no_names, right_of, as_tree, copied_variable, copied_set, copied_branch, copied_command, copied_module, variables_of, commands_of}
use Rattle.module_expand.specs.Flat.{is_written_as, source_of, flat_const, flat_module, IsFlat}
use Rattle.module_expand.proofs.FirstLemmas.{some_same, not_none}
use Rattle.module_expand.proofs.FlatFormedLemmas.{found_holds}
use Rattle.module_expand.proofs.TreeLemmas.{replaced-paren, replaced-not, replaced-minus, replaced-if, replaced-name, replaced-call, replaced-level, replaced-whole, replaced-real, replaced-truth, replaced-quoted}
use Rattle.prism_print.specs.Reading.{as_model}
use Rattle.prism_print.proofs.InductionLemmas.{HasGood, stands_good}

-- no chain of the tree has two or more arrows
abbrev IsShort : Expr → Type 0
IsShort x = HasLongChain x → ⊥

-- nor has one of any tree that a name stands for
abbrev AllShort : (Name → Option Expr) → Type 0
AllShort by = (n : Name) (t : Expr) → by n ≡ Some t → IsShort t

module _ (by : Name → Option Expr) (trees : AllShort by) where
  abbrev On : Expr → Type 0
  On x = IsShort x → IsShort (replaced by x)

  name_short : (n : Name) (o : Option Expr) → ((t : Expr) → o ≡ Some t → IsShort t) → IsShort (e.Name n) → IsShort (unwrap_or o (e.Name n))
  name_short n None all short = short
  name_short n (Some t) all short = all t refl

  all_short : (ps : List ((x : Expr) × On x)) → (OneHasLongChain (map (λ p. p.0) ps) → ⊥) → OneHasLongChain (map (replaced by) (map (λ p. p.0) ps)) → ⊥
  all_short [] none one = elim one [ ]
  all_short (p ∷ ps) none (arrow.in_first _ _ long) = p.1 (λ inside. none (arrow.in_first p.0 (map (λ q. q.0) ps) inside)) long
  all_short (p ∷ ps) none (arrow.in_later _ _ one) = all_short ps (λ inside. none (arrow.in_later p.0 (map (λ q. q.0) ps) inside)) one

  layer : (y : Expr-F ((x : Expr) × On x)) → On (roll-Expr (map-Expr ((x : Expr) × On x) Expr (λ p. p.0) y))
  layer (top.Whole v) = subst On (sym (e.rolls-Whole v)) (λ short. subst IsShort (sym (replaced-whole by v)) short)
  layer (top.Real v) = subst On (sym (e.rolls-Real v)) (λ short. subst IsShort (sym (replaced-real by v)) short)
  layer (top.Truth b) = subst On (sym (e.rolls-Truth b)) (λ short. subst IsShort (sym (replaced-truth by b)) short)
  layer (top.Name n) = subst On (sym (e.rolls-Name n)) (λ short. subst IsShort (sym (replaced-name by n)) (name_short n (by n) (trees n) short))
  layer (top.Quoted n) = subst On (sym (e.rolls-Quoted n)) (λ short. subst IsShort (sym (replaced-quoted by n)) short)
  layer (top.Paren p) = subst On (sym (e.rolls-Paren p.0)) (λ short. subst IsShort (sym (replaced-paren by p.0))
      (λ long. p.1 (λ inside. short (in_paren p.0 inside)) (paren_has long)))
  layer (top.Call f ps) = subst On (sym (e.rolls-Call f (map (λ p. p.0) ps))) (λ short. subst IsShort (sym (replaced-call by f (map (λ p. p.0) ps)))
      (λ long. all_short ps (λ inside. short (in_argument f (map (λ p. p.0) ps) inside)) (call_has long)))
  layer (top.Not p) = subst On (sym (e.rolls-Not p.0)) (λ short. subst IsShort (sym (replaced-not by p.0))
      (λ long. p.1 (λ inside. short (in_not p.0 inside)) (sign_has {l = rule.Negation} {t = k.Bang} bang long)))
  layer (top.Minus p) = subst On (sym (e.rolls-Minus p.0)) (λ short. subst IsShort (sym (replaced-minus by p.0))
      (λ long. p.1 (λ inside. short (in_minus p.0 inside)) (sign_has {l = rule.Unary} {t = k.Dash} dash long)))
  layer (top.Level ps os) = subst On (sym (e.rolls-Level (map (λ p. p.0) ps) os)) (λ short. subst IsShort (sym (replaced-level by (map (λ p. p.0) ps) os))
      (λ long. elim (level_has long) [
        | inl one ↦ all_short ps (λ inside. short (in_operand (map (λ p. p.0) ps) os inside)) one
        | inr two ↦ short (subst (λ operators. HasLongChain (e.Level (map (λ p. p.0) ps) operators)) (sym two.1) (arrows (map (λ p. p.0) ps) two.0))
      ]))
  layer (top.If p q r) = subst On (sym (e.rolls-If p.0 q.0 r.0)) (λ short. subst IsShort (sym (replaced-if by p.0 q.0 r.0))
      (λ long. elim (choice_has long) [
        | inl first ↦ p.1 (λ inside. short (in_condition p.0 q.0 r.0 inside)) first
        | inr (inl second) ↦ q.1 (λ inside. short (in_consequence p.0 q.0 r.0 inside)) second
        | inr (inr third) ↦ r.1 (λ inside. short (in_alternative p.0 q.0 r.0 inside)) third
      ]))

  -- replacing names by short trees leaves a tree short
  short_replaced : (x : Expr) → IsShort x → IsShort (replaced by x)
  short_replaced = ind-Expr On (λ x y is. subst (λ z. On (roll-Expr z)) is (layer y))

-- where each changed item is short if the item is, no changed item is long
one_short : {X : Type 0} (Has : X → Type 0) (change : X → X) → ((x : X) → (Has x → ⊥) → Has (change x) → ⊥) → (xs : List X) → (OneHas Has xs → ⊥) → OneHas Has (map change xs) → ⊥
one_short Has change each [] none one = elim one [ ]
one_short Has change each (x ∷ xs) none (in_first long) = each x (λ inside. none (in_first inside)) long
one_short Has change each (x ∷ xs) none (in_later one) = one_short Has change each xs (λ inside. none (in_later inside)) one

each_short : {X : Type 0} (Has : X → Type 0) (xs : List X) → (OneHas Has xs → ⊥) → All (λ x. Has x → ⊥) xs
each_short Has [] none = All-nil (λ x. Has x → ⊥)
each_short Has (x ∷ xs) none = All-cons (λ y. Has y → ⊥) x xs (λ long. none (in_first long)) (each_short Has xs (λ one. none (in_later one)))

module _ (names : Name → Option Name) (by : Name → Option Expr) (trees : AllShort by) where
  optional_short : (o : Option Expr) → (HasLongOption o → ⊥) → HasLongOption (option_map (replaced by) o) → ⊥
  optional_short None short = short
  optional_short (Some x) short = short_replaced by trees x short

  const_short : (c : ConstText) → (HasLongConst c → ⊥) → HasLongConst (flat_const by c) → ⊥
  const_short c short = optional_short c.value short

  named_short : (f : Named) → (HasLongNamed f → ⊥) → HasLongNamed (with_body (replaced by) f) → ⊥
  named_short f short = short_replaced by trees f.body short

  -- a change of both ends of a range
  abbrev both : Expr × Expr → Expr × Expr
  both r = (replaced by r.0, replaced by r.1)

  range_short : (o : Option (Expr × Expr)) → (HasLongRange o → ⊥) → HasLongRange (option_map both o) → ⊥
  range_short None short long = short long
  range_short (Some r) short (inl low) = short_replaced by trees r.0 (λ inside. short (inl inside)) low
  range_short (Some r) short (inr high) = short_replaced by trees r.1 (λ inside. short (inr inside)) high

  variable_short : (v : Variable) → (HasLongVariable v → ⊥) → HasLongVariable (copied_variable names by v) → ⊥
  variable_short v short (inl range) = range_short v.range (λ inside. short (inl inside)) range
  variable_short v short (inr init) = optional_short v.init (λ inside. short (inr inside)) init

  set_short : (s : Name × Expr) → (HasLongAssign s → ⊥) → HasLongAssign (copied_set names by s) → ⊥
  set_short s short = short_replaced by trees s.1 short

  branch_short : (b : Branch) → (HasLongBranch b → ⊥) → HasLongBranch (copied_branch names by b) → ⊥
  branch_short b short (inl weight) = optional_short b.weight (λ inside. short (inl inside)) weight
  branch_short b short (inr sets) = one_short HasLongAssign (copied_set names by) set_short b.sets (λ inside. short (inr inside)) sets

  command_short : (c : Command) → (HasLongCommand c → ⊥) → HasLongCommand (copied_command names by c) → ⊥
  command_short c short (inl guard) = short_replaced by trees c.guard (λ inside. short (inl inside)) guard
  command_short c short (inr branches) = one_short HasLongBranch (copied_branch names by) branch_short c.branches (λ inside. short (inr inside)) branches

  copy_short : (title : Name) (d : Module) → (OneHas HasLongVariable (variables_of d) → ⊥) → (OneHas HasLongCommand (commands_of d) → ⊥)
      → HasLongModule (copied_module names by title d) → ⊥
  copy_short title d variables commands (inl one) = one_short HasLongVariable (copied_variable names by) variable_short (variables_of d) variables one
  copy_short title d variables commands (inr one) = one_short HasLongCommand (copied_command names by) command_short (commands_of d) commands one

-- none of no things has a property
none_has : {X : Type 0} (Has : X → Type 0) → OneHas Has [] → ⊥
none_has Has one = elim one [ ]

-- the parts of a module that is not long
parts_short : (d : Module) → (HasLongModule d → ⊥) → (OneHas HasLongVariable (variables_of d) → ⊥) × (OneHas HasLongCommand (commands_of d) → ⊥)
parts_short (Written title vars commands) short = (λ one. short (inl one), λ one. short (inr one))
parts_short (Renamed title source pairs) short = (none_has HasLongVariable, none_has HasLongCommand)

source_short : (modules : List Module) (name : Name) → (OneHas HasLongModule modules → ⊥) → HasLongModule (source_of modules name) → ⊥
source_short modules name none = at (find (is_written_as name) modules)
    (λ d is. found_holds (λ d. HasLongModule d → ⊥) (is_written_as name) modules d (each_short HasLongModule modules none) is)
  where
    at : (o : Option Module) → ((d : Module) → o ≡ Some d → HasLongModule d → ⊥) → HasLongModule (unwrap_or o (Written name [] [])) → ⊥
    at None all (inl one) = none_has HasLongVariable one
    at None all (inr one) = none_has HasLongCommand one
    at (Some d) all long = all d refl long

names_short : (names : Name → Option Name) → AllShort (as_tree names)
names_short names n t is = at (names n) is
  where
    at : (o : Option Name) → option_map (λ m. e.Name m) o ≡ Some t → IsShort t
    at None same = absurd (not_none t (sym same))
    at (Some m) same = subst IsShort (some_same (e.Name m) t same) (leaf_has Refused (k.Name m) (e.Name m) refl)

module_short : (modules : List Module) (by : Name → Option Expr) → AllShort by → (OneHas HasLongModule modules → ⊥) → (d : Module) → (HasLongModule d → ⊥)
    → HasLongModule (flat_module modules by d) → ⊥
module_short modules by trees none (Written title vars commands) short =
    let parts = parts_short (Written title vars commands) short in
    copy_short no_names by trees title (Written title vars commands) parts.0 parts.1
module_short modules by trees none (Renamed title source pairs) short =
    let from = parts_short (source_of modules source) (source_short modules source none) in
    let first = parts_short (copied_module no_names by title (source_of modules source)) (copy_short no_names by trees title (source_of modules source) from.0 from.1) in
    copy_short (right_of pairs) (as_tree (right_of pairs)) (names_short (right_of pairs)) title (copied_module no_names by title (source_of modules source)) first.0 first.1

trees_short : (trees : List Named) (by : Name → Option Expr) → HasGood IsShort trees by → AllShort by
trees_short trees by good n t is = elim (good n) [
  | inl absent ↦ absurd (not_none t (sym is ∙ absent.0))
  | inr tree ↦ subst IsShort (some_same (e.Paren tree.0) t (sym tree.1 ∙ is)) (λ long. tree.2 (paren_has long))
]

-- the flat text of a model without such chains has none
pub flat_short : (m : ModelText) (flat : FlatText) → IsFlat m flat → (HasLongModel m → ⊥) → HasLongModel (as_model flat) → ⊥
flat_short m flat is short = at
  where
    by : Name → Option Expr
    by = stands_for flat.formulas

    trees : AllShort by
    trees = trees_short flat.formulas by (stands_good IsShort (λ f. HasLongNamed f → ⊥) m.formulas flat.formulas is.formulas (leaf_has Refused k.True (e.Truth true) refl)
        (λ table good f body. short_replaced table (trees_short flat.formulas table good) f.body body)
        (each_short HasLongNamed m.formulas (λ one. short (in_formula one))))

    at : HasLongModel (as_model flat) → ⊥
    at (in_const one) = one_short HasLongConst (flat_const by) (const_short no_names by trees) m.consts (λ inside. short (in_const inside))
        (subst (OneHas HasLongConst) (ap (λ f. f.consts) is.rest) one)
    at (in_global one) = one_short HasLongVariable (copied_variable no_names by) (variable_short no_names by trees) m.globals (λ inside. short (in_global inside))
        (subst (OneHas HasLongVariable) (ap (λ f. f.globals) is.rest) one)
    at (in_formula one) = one_short HasLongNamed (with_body (replaced by)) (named_short no_names by trees) m.formulas (λ inside. short (in_formula inside))
        (subst (OneHas HasLongNamed) is.formulas one)
    at (in_module one) = one_short HasLongModule (flat_module m.modules by) (module_short m.modules by trees (λ inside. short (in_module inside))) m.modules (λ inside. short (in_module inside))
        (subst (OneHas HasLongModule) (ap (λ f. f.modules) is.rest) one)
    at (in_label one) = one_short HasLongNamed (with_body (replaced by)) (named_short no_names by trees) m.labels (λ inside. short (in_label inside))
        (subst (OneHas HasLongNamed) (ap (λ f. f.labels) is.rest) one)
