-- What commands may not assign, and what is too much: the first name in text order.
use Rattle.std.specs.Prelude.{ℕ, ◌==◌, ◌||◌, List, Option, Some, None, Bool, true, false, not, map, bytes_eq, length, is_some, nat_lt, if◌then◌else◌}
use Rattle.std.specs.List.{list_any}
use Rattle.std.specs.Map.{lookup}
use Rattle.prism_syntax.specs.declared.commands.Branch.{Branch}
use Rattle.prism_syntax.specs.declared.commands.Command.{Command}
use Rattle.prism_syntax.specs.declared.models.Variable.{Variable}
use Rattle.prism_syntax.specs.declared.models.FlatText.{FlatText}
use Rattle.chain_model.specs.Limits.{most_modules, most_variables, most_commands, most_branches}
use Rattle.prism_names.specs.First.{Name, first_some, first_repeated}
use Rattle.typecheck.specs.Declarations.{declared_variables, declared_commands}

-- the owner of the variable of a name, the first among these with their owners: a module, or none for a global
abbrev pub owner_in : List (Option ℕ × Variable) → Name → Option (Option ℕ)
owner_in vars name = lookup (bytes_eq name) (map (λ v. (v.1.name, v.0)) vars)

-- a variable of another module than this one
abbrev pub is_foreign : ℕ → Option (Option ℕ) → Bool
is_foreign number (Some (Some owner)) = not (owner == number)
is_foreign number (Some None) = false
is_foreign number None = false

-- a global
abbrev pub is_global : Option (Option ℕ) → Bool
is_global (Some None) = true
is_global (Some (Some owner)) = false
is_global None = false

-- the first name that a command assigns, in text order, and of which a test holds
abbrev pub first_assigned : (Name → Bool) → Command → Option Name
first_assigned test c = first_some (λ b. first_some (λ s. if test s.0 then Some s.0 else None) b.sets) c.branches

-- the names that a branch assigns
abbrev pub assigned_names : Branch → List Name
assigned_names b = map (λ s. s.0) b.sets

-- the first name that one update of a command assigns twice
abbrev pub double_write : Command → Option Name
double_write c = first_some (λ b. first_repeated (assigned_names b) (assigned_names b)) c.branches

-- the variables of names have these owners
module _ (owners : Name → Option (Option ℕ)) where
  -- the first name that a command assigns and that is a variable of another module
  abbrev pub foreign_write : ℕ × Command → Option Name
  foreign_write c = first_assigned (λ name. is_foreign c.0 (owners name)) c.1

  -- the first global that a labelled command assigns
  abbrev pub global_write : Command → Option Name
  global_write c = if is_some c.action then first_assigned (λ name. is_global (owners name)) c else None

-- more modules, variables, commands, or branches of a command than the limits allow
abbrev pub is_too_large : FlatText → Bool
is_too_large flat =
    nat_lt most_modules (length flat.modules) || (nat_lt most_variables (length (declared_variables flat)) || (nat_lt most_commands (length (declared_commands flat))
    || list_any (λ c. nat_lt most_branches (length c.1.branches)) (declared_commands flat)))
