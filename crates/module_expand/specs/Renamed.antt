-- Copies of the parts of a module in which names are replaced, all at once.
use Rattle.std.specs.Prelude.{List, [], Option, None, map, find, bytes_eq, unwrap_or}
use Rattle.std.specs.Option.{option_map}
use Rattle.prism_syntax.specs.declared.expressions.Expr.{Expr}
use Rattle.prism_syntax.specs.declared.expressions.Expr.TheVariants as e
use Rattle.prism_syntax.specs.declared.commands.Branch.{Branch}
use Rattle.prism_syntax.specs.declared.commands.Command.{Command}
use Rattle.prism_syntax.specs.declared.models.Variable.{Variable}
use Rattle.prism_syntax.specs.declared.models.Module.{Module}
use Rattle.prism_syntax.specs.declared.models.Module.TheVariants.{Written, Renamed}
use Rattle.prism_syntax.specs.Replaced.{replaced}
use Rattle.prism_names.specs.First.{Name}

-- no name has another one
abbrev pub no_names : Name → Option Name
no_names name = None

-- the other name that a list of pairs gives a name: the right side of the first pair with that left side
abbrev pub right_of : List (Name × Name) → Name → Option Name
right_of pairs name = option_map (λ p. p.1) (find (λ p. bytes_eq p.0 name) pairs)

-- the other name, as a tree
abbrev pub as_tree : (Name → Option Name) → Name → Option Expr
as_tree names name = option_map (λ other. e.Name other) (names name)

-- the variables of a module that is written out
abbrev pub variables_of : Module → List Variable
variables_of (Written title vars commands) = vars
variables_of (Renamed title source pairs) = []

-- the names of the variables of a module that is written out
abbrev pub variable_names : Module → List Name
variable_names m = map (λ v. v.name) (variables_of m)

-- the commands of a module that is written out
abbrev pub commands_of : Module → List Command
commands_of (Written title vars commands) = commands
commands_of (Renamed title source pairs) = []

-- names says which declared names, assigned names and actions have other ones
module _ (names : Name → Option Name) where
  -- the other name of a name, or the name itself where it has none
  abbrev pub renamed : Name → Name
  renamed name = unwrap_or (names name) name

  -- by says what the names in expressions stand for
  module _ (by : Name → Option Expr) where
    -- a variable with another name, other ends of its range and another initial value
    abbrev pub copied_variable : Variable → Variable
    copied_variable v = record {
      name = renamed v.name;
      range = option_map (λ r. (replaced by r.0, replaced by r.1)) v.range;
      init = option_map (replaced by) v.init;
    }

    -- an assignment with another name and another value
    abbrev pub copied_set : Name × Expr → Name × Expr
    copied_set s = (renamed s.0, replaced by s.1)

    -- a branch with another weight and other assignments
    abbrev pub copied_branch : Branch → Branch
    copied_branch b = record { weight = option_map (replaced by) b.weight; sets = map copied_set b.sets }

    -- a command with another action, another guard and other branches
    abbrev pub copied_command : Command → Command
    copied_command c = record {
      action = option_map renamed c.action;
      guard = replaced by c.guard;
      branches = map copied_branch c.branches;
    }

    -- a module written out, of this name, with other variables and other commands
    abbrev pub copied_module : Name → Module → Module
    copied_module title from = Written title (map copied_variable (variables_of from))
        (map copied_command (commands_of from))
