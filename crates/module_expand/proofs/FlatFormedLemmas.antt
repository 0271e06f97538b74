-- The flat text of a well-formed model is well formed.
use Rattle.std.proofs.Common.{◌≡◌, List, [], ◌∷◌, Option, Bool, map, length, find, bytes_eq, sym, ap, ◌∙◌, subst, unwrap_or, cond, arith, refl}
use Rattle.std.specs.Prelude.{None, Some, All, IfSome, IsSome}
use mathlib.Core.Logic.{inl, inr}
use Rattle.std.specs.Option.{option_map}
use Rattle.std.proofs.lemmas.Bool.{cases_Bool}
use Rattle.std.proofs.lemmas.Grind.{common_steps}
use Rattle.std.proofs.lemmas.List.Elements.{All-nil, All-head, All-tail, All-map, All-weaker}
use Rattle.prism_syntax.specs.declared.labels.Labels.TheVariants.{Refused}
use Rattle.prism_syntax.specs.declared.expressions.Expr.{Expr}
use Rattle.prism_syntax.specs.declared.expressions.Expr.TheVariants as e
use Rattle.prism_syntax.specs.declared.commands.Branch.{Branch}
use Rattle.prism_syntax.specs.declared.commands.Command.{Command}
use Rattle.prism_syntax.specs.declared.models.ConstText.{ConstText}
use Rattle.prism_syntax.specs.declared.models.Named.{Named}
use Rattle.prism_syntax.specs.declared.models.Variable.{Variable}
use Rattle.prism_syntax.specs.declared.models.Module.{Module}
use Rattle.prism_syntax.specs.declared.models.Module.TheVariants.{Written, Renamed}
use Rattle.prism_syntax.specs.declared.models.ModelText.{ModelText}
use Rattle.prism_syntax.specs.Replaced.{replaced}
use Rattle.prism_syntax.specs.WellFormed.{IsFormed, IsPlain, IsFormedName, IsFormedConst, IsFormedFormula, IsFormedLabel, IsFormedVariable, IsFormedBranch, IsFormedCommand, IsFormedModule, IsFormedModel, IsFormedFlat, IsWritten}
use Rattle.prism_names.specs.First.{Name}
use Rattle.module_expand.specs.Expanded.{stands_for, with_body, AreExpanded}
use Rattle.module_expand.specs.Renamed.{no_names, right_of, as_tree, renamed, copied_variable, copied_set, copied_branch, copied_command, copied_module, variables_of, commands_of}
use Rattle.module_expand.specs.Flat.{is_written_as, source_of, flat_const, flat_module, flat_of}
use Rattle.module_expand.proofs.FirstLemmas.{not_none, some_same}
use Rattle.module_expand.proofs.FormedLemmas.{StandForFormed, replaced-formed}

-- other names are well formed
abbrev AreFormedNames : (Name → Option Name) → Type 0
AreFormedNames names = (n m : Name) → names n ≡ Some m → IsFormedName m

mapped : {X : Type 0} (P : X → Type 0) (f : X → X) → ((x : X) → P x → P (f x)) → (xs : List X) → All P xs
    → All P (map f xs)
mapped P f each xs all = All-map P f xs (All-weaker P (λ x. P (f x)) each xs all)

optional : (by : Name → Option Expr) → StandForFormed Refused by → (o : Option Expr) → IfSome o IsPlain
    → IfSome (option_map (replaced by) o) IsPlain
optional by trees None h = h
optional by trees (Some x) h = replaced-formed Refused by trees h

name_formed : (names : Name → Option Name) → AreFormedNames names → (n : Name) → IsFormedName n
    → IsFormedName (renamed names n)
name_formed names formed n h = at (names n) (formed n)
  where
    at : (o : Option Name) → ((m : Name) → o ≡ Some m → IsFormedName m) → IsFormedName (unwrap_or o n)
    at None all = h
    at (Some m) all = all m refl

const_formed : (by : Name → Option Expr) → StandForFormed Refused by → (c : ConstText) → IsFormedConst c
    → IsFormedConst (flat_const by c)
const_formed by trees c h = record { name = h.name; value = optional by trees c.value h.value }

variable_formed : (names : Name → Option Name) (by : Name → Option Expr) → AreFormedNames names
    → StandForFormed Refused by
    → (v : Variable) → IsFormedVariable v → IsFormedVariable (copied_variable names by v)
variable_formed names by formed trees v h = record {
  name = name_formed names formed v.name h.name;
  range = range v.range h.range;
  init = optional by trees v.init h.init;
}
  where
    range : (o : Option (Expr × Expr)) → IfSome o (λ r. IsPlain r.0 × IsPlain r.1)
        → IfSome {T = Expr × Expr} (option_map (λ r. (replaced by r.0, replaced by r.1)) o) (λ r. IsPlain r.0
        × IsPlain r.1)
    range None g = g
    range (Some r) g = (replaced-formed Refused by trees g.0, replaced-formed Refused by trees g.1)

branch_formed : (names : Name → Option Name) (by : Name → Option Expr) → AreFormedNames names
    → StandForFormed Refused by
    → (b : Branch) → IsFormedBranch b → IsFormedBranch (copied_branch names by b)
branch_formed names by formed trees b h = record {
  weight = optional by trees b.weight h.weight;
  sets = mapped (λ s. IsFormedName s.0 × IsPlain s.1) (copied_set names by)
      (λ s g. (name_formed names formed s.0 g.0, replaced-formed Refused by trees g.1)) b.sets h.sets;
}

command_formed : (names : Name → Option Name) (by : Name → Option Expr) → AreFormedNames names
    → StandForFormed Refused by
    → (c : Command) → IsFormedCommand c → IsFormedCommand (copied_command names by c)
command_formed names by formed trees c h = record {
  action = action c.action h.action;
  guard = replaced-formed Refused by trees h.guard;
  some = omega (arith, same_length, h.some);
  branches = mapped IsFormedBranch (copied_branch names by) (branch_formed names by formed trees) c.branches h.branches;
  weights = λ more. mapped (λ b. IsSome b.weight) (copied_branch names by) (λ b g. weighted b.weight g) c.branches
      (h.weights (omega (arith, same_length, more)));
}
  where
    same_length : length (map (copied_branch names by) c.branches) ≡ length c.branches
    same_length = grind (arith, common_steps)

    action : (o : Option Name) → IfSome o IsFormedName → IfSome (option_map (renamed names) o) IsFormedName
    action None g = g
    action (Some n) g = name_formed names formed n g

    weighted : (o : Option Expr) → IsSome o → IsSome (option_map (replaced by) o)
    weighted None g = g
    weighted (Some x) g = g

parts_formed : (m : Module) → IsFormedModule m → All IsFormedVariable (variables_of m)
    × All IsFormedCommand (commands_of m)
parts_formed (Written title vars commands) h = (h.1, h.2)
parts_formed (Renamed title source pairs) h = (All-nil IsFormedVariable, All-nil IsFormedCommand)

module_formed : (names : Name → Option Name) (by : Name → Option Expr) → AreFormedNames names
    → StandForFormed Refused by
    → (title : Name) (m : Module) → IsFormedName title → All IsFormedVariable (variables_of m)
    × All IsFormedCommand (commands_of m) → IsFormedModule (copied_module names by title m)
module_formed names by formed trees title m named parts = (
  named,
  mapped IsFormedVariable (copied_variable names by) (variable_formed names by formed trees) (variables_of m) parts.0,
  mapped IsFormedCommand (copied_command names by) (command_formed names by formed trees) (commands_of m) parts.1,
)

-- what is found is as each item is
pub found_holds : {X : Type 0} (P : X → Type 0) (p : X → Bool) (xs : List X) (x : X) → All P xs → find p xs ≡ Some x
    → P x
found_holds P p [] x all h = absurd (not_none x (sym h))
found_holds P p (y ∷ xs) x all h = elim (cases_Bool (p y)) [
  | inl passes ↦ subst P (some_same y x (sym (ap (λ b. cond b (Some y) (find p xs)) passes) ∙ h)) (All-head P y xs all)
  | inr fails ↦ found_holds P p xs x (All-tail P y xs all) (sym (ap (λ b. cond b (Some y) (find p xs)) fails) ∙ h)
]

source_formed : (modules : List Module) (name : Name) → All IsFormedModule modules
    → All IsFormedVariable (variables_of (source_of modules name))
    × All IsFormedCommand (commands_of (source_of modules name))
source_formed modules name all = at (find (is_written_as name) modules) (λ m is. found_holds IsFormedModule
    (is_written_as name) modules m all is)
  where
    at : (o : Option Module) → ((m : Module) → o ≡ Some m → IsFormedModule m)
        → All IsFormedVariable (variables_of (unwrap_or o (Written name [] [])))
        × All IsFormedCommand (commands_of (unwrap_or o (Written name [] [])))
    at None formed = (All-nil IsFormedVariable, All-nil IsFormedCommand)
    at (Some m) formed = parts_formed m (formed m refl)

rights_formed : (pairs : List (Name × Name)) → All (λ p. IsFormedName p.0 × IsFormedName p.1) pairs
    → AreFormedNames (right_of pairs)
rights_formed pairs all n m is = at (find (λ p. bytes_eq p.0 n) pairs)
    (λ p found. (found_holds (λ p. IsFormedName p.0 × IsFormedName p.1) (λ p. bytes_eq p.0 n) pairs p all found).1) is
  where
    at : (o : Option (Name × Name)) → ((p : Name × Name) → o ≡ Some p → IsFormedName p.1) → option_map (λ p. p.1) o
        ≡ Some m → IsFormedName m
    at None formed h = absurd (not_none m (sym h))
    at (Some p) formed h = subst IsFormedName (some_same p.1 m h) (formed p refl)

trees_formed : (names : Name → Option Name) → AreFormedNames names → StandForFormed Refused (as_tree names)
trees_formed names formed n t is = at (names n) (formed n) is
  where
    at : (o : Option Name) → ((m : Name) → o ≡ Some m → IsFormedName m) → option_map (λ m. e.Name m) o ≡ Some t
        → IsFormed Refused t
    at None all h = absurd (not_none t (sym h))
    at (Some m) all h = subst (IsFormed Refused) (some_same (e.Name m) t h) (IsFormed.name (all m refl))

no_names_formed : AreFormedNames no_names
no_names_formed n m is = absurd (not_none m (sym is))

flat_module_formed : (modules : List Module) (by : Name → Option Expr) → All IsFormedModule modules
    → StandForFormed Refused by
    → (m : Module) → IsFormedModule m → IsFormedModule (flat_module modules by m)
flat_module_formed modules by all trees (Written title vars commands) h =
    module_formed no_names by no_names_formed trees title (Written title vars commands) h.0 (h.1, h.2)
flat_module_formed modules by all trees (Renamed title source pairs) h =
    let formed = rights_formed pairs h.2 in
    let from = module_formed no_names by no_names_formed trees title (source_of modules source) h.0
    (source_formed modules source all) in
    module_formed (right_of pairs) (as_tree (right_of pairs)) formed (trees_formed (right_of pairs) formed) title
    (copied_module no_names by title (source_of modules source)) h.0
    (from.1, from.2)

flat_written : (modules : List Module) (by : Name → Option Expr) (m : Module) → IsWritten (flat_module modules by m)
flat_written modules by (Written title vars commands) = tt
flat_written modules by (Renamed title source pairs) = tt

formula_formed : (by : Name → Option Expr) → StandForFormed Refused by → (f : Named) → IsFormedFormula f
    → IsFormedFormula (with_body (replaced by) f)
formula_formed by trees f h = record { name = h.name; body = replaced-formed Refused by trees h.body }

label_formed : (by : Name → Option Expr) → StandForFormed Refused by → (f : Named) → IsFormedLabel f
    → IsFormedLabel (with_body (replaced by) f)
label_formed by trees f h = record { name = h.name; body = replaced-formed Refused by trees h.body }

pub flat_formed : (m : ModelText) (trees : List Named) → AreExpanded m.formulas trees
    → StandForFormed Refused (stands_for trees) → IsFormedModel m → IsFormedFlat (flat_of m trees)
flat_formed m trees expanded formed h = record {
  consts = mapped IsFormedConst (flat_const by) (const_formed by formed) m.consts h.consts;
  globals = mapped IsFormedVariable (copied_variable no_names by)
      (variable_formed no_names by no_names_formed formed) m.globals h.globals;
  formulas = subst (All IsFormedFormula) (sym expanded) (mapped IsFormedFormula (with_body (replaced by))
      (formula_formed by formed) m.formulas h.formulas);
  modules = mapped IsFormedModule (flat_module m.modules by) (flat_module_formed m.modules by h.modules formed)
      m.modules h.modules;
  written = All-map IsWritten (flat_module m.modules by) m.modules (λ k d lt. flat_written m.modules by _);
  labels = mapped IsFormedLabel (with_body (replaced by)) (label_formed by formed) m.labels h.labels;
}
  where
    by : Name → Option Expr
    by = stands_for trees
