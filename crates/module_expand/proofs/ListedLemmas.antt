-- The expressions of what is copied are the expressions with their names replaced.
use Rattle.std.proofs.Common.{◌≡◌, List, [], ◌∷◌, ◌++◌, Option, map, sym, ap, ◌∙◌, refl}
use Rattle.std.specs.Prelude.{None, Some}
use Rattle.std.specs.Option.{option_map, option_to_list}
use Rattle.std.specs.List.{flat_map}
use Rattle.std.proofs.lemmas.List.{map-append}
use Rattle.prism_syntax.specs.declared.expressions.Expr.{Expr}
use Rattle.prism_syntax.specs.declared.commands.Branch.{Branch}
use Rattle.prism_syntax.specs.declared.commands.Command.{Command}
use Rattle.prism_syntax.specs.declared.models.ConstText.{ConstText}
use Rattle.prism_syntax.specs.declared.models.Named.{Named}
use Rattle.prism_syntax.specs.declared.models.Variable.{Variable}
use Rattle.prism_syntax.specs.declared.models.Module.{Module}
use Rattle.prism_syntax.specs.Replaced.{replaced}
use Rattle.prism_names.specs.First.{Name}
use Rattle.module_expand.specs.Expanded.{with_body}
use Rattle.module_expand.specs.Renamed.{copied_variable, copied_set, copied_branch, copied_command, copied_module, variables_of, commands_of}
use Rattle.module_expand.specs.Flat.{flat_const}
use Rattle.module_expand.specs.Listed.{const_exprs, variable_exprs, branch_exprs, command_exprs, module_exprs, bodies}

listed : {X : Type 0} (f : Expr → Expr) (g : X → List Expr) (change : X → X) → ((x : X) → g (change x) ≡ map f (g x))
    → (xs : List X) → flat_map g (map change xs) ≡ map f (flat_map g xs)
listed f g change each [] = refl
listed f g change each (x ∷ xs) =
    ap (λ z. z ++ flat_map g (map change xs)) (each x) ∙ (ap (λ z. map f (g x) ++ z) (listed f g change each xs)
    ∙ sym (map-append f (g x) (flat_map g xs)))

to_list : (f : Expr → Expr) (o : Option Expr) → option_to_list (option_map f o) ≡ map f (option_to_list o)
to_list f None = refl
to_list f (Some x) = refl

pub exprs-consts : (by : Name → Option Expr) (cs : List ConstText) → flat_map const_exprs (map (flat_const by) cs)
    ≡ map (replaced by) (flat_map const_exprs cs)
exprs-consts by cs = listed (replaced by) const_exprs (flat_const by) (λ c. to_list (replaced by) c.value) cs

exprs-variable : (names : Name → Option Name) (by : Name → Option Expr) (v : Variable)
    → variable_exprs (copied_variable names by v) ≡ map (replaced by) (variable_exprs v)
exprs-variable names by v =
    ap (λ z. z ++ option_to_list (option_map (replaced by) v.init)) (range v.range)
    ∙ (ap (λ z. map (replaced by) (flat_map (λ (r : Expr × Expr). r.0 ∷ (r.1 ∷ [])) (option_to_list v.range)) ++ z)
    (to_list (replaced by) v.init)
    ∙ sym (map-append (replaced by) (flat_map (λ (r : Expr × Expr). r.0 ∷ (r.1 ∷ [])) (option_to_list v.range))
    (option_to_list v.init)))
  where
    range : (o : Option (Expr × Expr)) → flat_map (λ (r : Expr × Expr). r.0 ∷ (r.1 ∷ []))
        (option_to_list (option_map (λ r. (replaced by r.0, replaced by r.1)) o))
        ≡ map (replaced by) (flat_map (λ (r : Expr × Expr). r.0 ∷ (r.1 ∷ [])) (option_to_list o))
    range None = refl
    range (Some r) = refl

pub exprs-variables : (names : Name → Option Name) (by : Name → Option Expr) (vs : List Variable)
    → flat_map variable_exprs (map (copied_variable names by) vs) ≡ map (replaced by) (flat_map variable_exprs vs)
exprs-variables names by vs = listed (replaced by) variable_exprs (copied_variable names by)
    (exprs-variable names by) vs

exprs-sets : (names : Name → Option Name) (by : Name → Option Expr) (ss : List (Name × Expr))
    → map (λ s. s.1) (map (copied_set names by) ss) ≡ map (replaced by) (map (λ s. s.1) ss)
exprs-sets names by [] = refl
exprs-sets names by (s ∷ ss) = ap (λ z. replaced by s.1 ∷ z) (exprs-sets names by ss)

exprs-branch : (names : Name → Option Name) (by : Name → Option Expr) (b : Branch)
    → branch_exprs (copied_branch names by b) ≡ map (replaced by) (branch_exprs b)
exprs-branch names by b =
    ap (λ z. z ++ map (λ s. s.1) (map (copied_set names by) b.sets)) (to_list (replaced by) b.weight)
    ∙ (ap (λ z. map (replaced by) (option_to_list b.weight) ++ z) (exprs-sets names by b.sets)
    ∙ sym (map-append (replaced by) (option_to_list b.weight) (map (λ s. s.1) b.sets)))

exprs-command : (names : Name → Option Name) (by : Name → Option Expr) (c : Command)
    → command_exprs (copied_command names by c) ≡ map (replaced by) (command_exprs c)
exprs-command names by c = ap (λ z. replaced by c.guard ∷ z) (listed (replaced by) branch_exprs
    (copied_branch names by) (exprs-branch names by) c.branches)

pub exprs-module : (names : Name → Option Name) (by : Name → Option Expr) (title : Name) (m : Module)
    → module_exprs (copied_module names by title m) ≡ map (replaced by) (module_exprs m)
exprs-module names by title m =
    ap (λ z. z ++ flat_map command_exprs (map (copied_command names by) (commands_of m)))
    (exprs-variables names by (variables_of m))
    ∙ (ap (λ z. map (replaced by) (flat_map variable_exprs (variables_of m)) ++ z)
    (listed (replaced by) command_exprs (copied_command names by) (exprs-command names by) (commands_of m))
    ∙ sym (map-append (replaced by) (flat_map variable_exprs (variables_of m))
    (flat_map command_exprs (commands_of m))))

pub exprs-bodies : (by : Name → Option Expr) (all : List Named) → bodies (map (with_body (replaced by)) all)
    ≡ map (replaced by) (bodies all)
exprs-bodies by [] = refl
exprs-bodies by (f ∷ all) = ap (λ z. replaced by f.body ∷ z) (exprs-bodies by all)
