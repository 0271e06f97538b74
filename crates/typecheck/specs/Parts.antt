-- What is made of the parts of a flat model, where expressions have these trees and values: the parts of its chain.
use Rattle.std.specs.Prelude.{ℕ, ◌==◌, List, [], ◌∷◌, Option, Some, None, Bool, false, map, filter, option_map, position, bytes_eq, nat_eq}
use Rattle.std.specs.List.{enumerate_from, dedup}
use Rattle.std.specs.Option.{option_map_or, option_and_then}
use Rattle.chain_model.specs.declared.values.Sort.{Sort}
use Rattle.chain_model.specs.declared.values.Sort.TheVariants as sort
use Rattle.chain_model.specs.declared.values.Value.TheVariants as value
use Rattle.chain_model.specs.declared.expressions.Typed.{Typed}
use Rattle.chain_model.specs.declared.expressions.Form.TheOpen.{Form-F}
use Rattle.chain_model.specs.declared.expressions.Form.TheOpen as top
use Rattle.chain_model.specs.declared.expressions.Form.TheFolds.{fold-Typed}
use Rattle.chain_model.specs.declared.chain.Var.{Var}
use Rattle.chain_model.specs.declared.chain.Action.{Action}
use Rattle.chain_model.specs.declared.chain.Arm.{Arm}
use Rattle.chain_model.specs.declared.chain.Act.{Act}
use Rattle.chain_model.specs.Sorts.{◌>>=◌}
use Rattle.chain_model.specs.Values.{Valued}
use Rattle.prism_syntax.specs.declared.expressions.Expr.{Expr}
use Rattle.prism_syntax.specs.declared.commands.Branch.{Branch}
use Rattle.prism_syntax.specs.declared.commands.Command.{Command}
use Rattle.prism_syntax.specs.declared.models.Named.{Named}
use Rattle.prism_syntax.specs.declared.models.Variable.{Variable}
use Rattle.prism_syntax.specs.declared.models.Module.{Module}
use Rattle.prism_names.specs.First.{Name}
use Rattle.typed_trees.specs.Leaves.{literal, shown}
use Rattle.typecheck.specs.declared.parts.Parts.{Parts}
use Rattle.typecheck.specs.Declarations.{module_name, declared_sort}
use Rattle.typecheck.specs.Ranges.{least, greatest, start}
use Rattle.typecheck.specs.Chains.{one}

-- all of these, where each is there
abbrev pub all_made : {X : Type 0} → List (Option X) → Option (List X)
all_made [] = Some []
all_made (x ∷ xs) = x >>= λ first. all_made xs >>= λ others. Some (first ∷ others)

-- the number of the variable that one node is
abbrev pub number_step : Form-F (Sort → Option ℕ) (Option ℕ) → Sort → Option ℕ
number_step (top.Lit value) s = None
number_step (top.Var number) s = Some number
number_step (top.Call func parts) s = None
number_step (top.Not x) s = None
number_step (top.Minus x) s = None
number_step (top.Level parts ops) s = None
number_step (top.If c x y) s = None
number_step top.IsInit s = None
number_step top.IsDeadlock s = None

-- the number of the variable that a tree is
abbrev pub number_of : Typed → Option ℕ
number_of = fold-Typed (Sort → Option ℕ) (Option ℕ) number_step (λ t. t.form t.sort)

-- a variable, with the number of its module
abbrev pub made_variable : (Expr → Valued) → Option ℕ × Variable → Var
made_variable values v = record {
  name = v.1.name;
  owner = option_map shown v.0;
  sort = declared_sort v.1;
  lo = least values v.1;
  hi = greatest values v.1;
  init = start values v.1;
}

-- the number of the variable of a name
abbrev pub assigned_number : (Name → Option Typed) → Name → Option ℕ
assigned_number variables name = variables name >>= number_of

-- a weight, which is 1 where it is left out
abbrev pub made_weight : (Expr → Option Typed) → Branch → Option Typed
made_weight tree b = option_map_or tree b.weight (Some (literal sort.Int (value.Num one)))

-- expressions have these trees, and variables these
module _ (tree : Expr → Option Typed) (variables : Name → Option Typed) where
  -- an assignment
  abbrev pub made_set : Name × Expr → Option (ℕ × Typed)
  made_set set = assigned_number variables set.0 >>= λ number. tree set.1 >>= λ right. Some (number, right)

  -- a branch
  abbrev pub made_branch : Branch → Option Arm
  made_branch b = made_weight tree b >>= λ weight. all_made (map made_set b.sets) >>= λ sets. Some (record { weight = weight; sets = sets })

-- the number of an action among these
abbrev pub action_number : List Name → Option Name → Option ℕ
action_number names action = option_and_then (λ name. option_map shown (position (bytes_eq name) names)) action

-- expressions have these trees, variables these, and actions these names
module _ (tree : Expr → Option Typed) (variables : Name → Option Typed) (names : List Name) where
  -- a command, with the number of its module
  abbrev pub made_command : ℕ × Command → Option Act
  made_command c =
      tree c.1.guard >>= λ guard. all_made (map (made_branch tree variables) c.1.branches) >>= λ branches.
      Some (record { «module» = shown c.0; action = action_number names c.1.action; guard = guard; branches = branches })

-- a label
abbrev pub made_label : (Expr → Option Typed) → Named → Option (Name × Typed)
made_label tree l = tree l.body >>= λ body. Some (l.name, body)

-- a command has the action of this number
abbrev pub has_action : ℕ → Act → Bool
has_action number act = option_map_or (λ n. n == number) act.action false

-- the modules, in their order, that have a command with this action
abbrev pub taking : List Act → ℕ → List ℕ
taking acts number = dedup nat_eq (map (λ act. act.module) (filter (has_action number) acts))

-- the actions of these names
abbrev pub made_actions : List Act → List Name → List Action
made_actions acts names = map (λ a. record { name = a.1; takes = taking acts a.0 }) (enumerate_from 0 names)

-- the parts of a chain: of these variables, commands, labels and modules, where actions have these names
abbrev pub made_parts : (Expr → Valued) → (Expr → Option Typed) → (Name → Option Typed) → List (Option ℕ × Variable) → List (ℕ × Command)
    → List Named → List Module → List Name → Option Parts
made_parts values tree variables vars commands labels modules names =
    all_made (map (made_command tree variables names) commands) >>= λ acts. all_made (map (made_label tree) labels) >>= λ bodies.
    Some (record {
      vars = map (made_variable values) vars;
      actions = made_actions acts names;
      modules = map module_name modules;
      commands = acts;
      labels = bodies;
    })
