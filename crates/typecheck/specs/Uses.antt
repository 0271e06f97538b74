-- The first name in a flat model, in text order, that may not stand where it does.
use Rattle.std.specs.Prelude.{Option, Some, None, is_some, if◌then◌else◌}
use Rattle.std.specs.Option.{option_or, option_and_then}
use Rattle.chain_model.specs.declared.expressions.Typed.{Typed}
use Rattle.prism_syntax.specs.declared.expressions.Expr.{Expr}
use Rattle.prism_syntax.specs.declared.commands.Branch.{Branch}
use Rattle.prism_syntax.specs.declared.commands.Command.{Command}
use Rattle.prism_syntax.specs.declared.models.Variable.{Variable}
use Rattle.prism_syntax.specs.declared.models.Module.{Module}
use Rattle.prism_syntax.specs.declared.models.FlatText.{FlatText}
use Rattle.prism_names.specs.First.{Name, first_some}
use Rattle.typecheck.specs.Names.{unknown_in}
use Rattle.typecheck.specs.Declarations.{variables_of, commands_of}

-- what names stand for among constants
module _ (constants : Name → Option Typed) where
  -- in a range and then in an initial value only constants may be named
  abbrev pub unknown_in_variable : Variable → Option Name
  unknown_in_variable v =
      option_or (option_and_then (λ r. option_or (unknown_in constants r.0) (unknown_in constants r.1)) v.range)
      (option_and_then (unknown_in constants) v.init)

-- what names stand for among constants and variables, and among variables
module _ (names variables : Name → Option Typed) where
  -- the assigned name has to be a variable; its value comes after it
  abbrev pub unknown_in_set : Name × Expr → Option Name
  unknown_in_set set = option_or (if is_some (variables set.0) then None else Some set.0) (unknown_in names set.1)

  -- a branch's weight, and then each assignment
  abbrev pub unknown_in_branch : Branch → Option Name
  unknown_in_branch b = option_or (option_and_then (unknown_in names) b.weight) (first_some unknown_in_set b.sets)

  -- a command's guard, and then each branch
  abbrev pub unknown_in_command : Command → Option Name
  unknown_in_command c = option_or (unknown_in names c.guard) (first_some unknown_in_branch c.branches)

-- what names stand for among constants, among constants and variables, and among variables
module _ (constants names variables : Name → Option Typed) where
  -- a module's variables, and then its commands
  abbrev pub unknown_in_module : Module → Option Name
  unknown_in_module m =
      option_or (first_some (unknown_in_variable constants) (variables_of m)) (first_some (unknown_in_command names variables) (commands_of m))

  -- globals, modules and labels
  abbrev pub unknown_in_model : FlatText → Option Name
  unknown_in_model flat =
      option_or (first_some (unknown_in_variable constants) flat.globals)
      (option_or (first_some unknown_in_module flat.modules) (first_some (λ l. unknown_in names l.body) flat.labels))
