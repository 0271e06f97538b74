use Rattle.std.proofs.Common.{List, ◌++◌, subst, ap, bytes_eq}
use Rattle.std.specs.Map.{lookup}
use Rattle.chain_model.specs.declared.expressions.Typed.{Typed}
use Rattle.chain_model.specs.declared.chain.Var.{Var}
use Rattle.prism_names.specs.First.{Name}
use Rattle.typed_trees.specs.Leaves.{numbered}
use Rattle.typed_trees.specs.Scopes.{IsTable}
use Rattle.typecheck.specs.Paths.{built_in, sorts_of_variables}
use Rattle.typecheck.proofs.paths.names_of.Goals as goal

pub returns-clause-variables : goal.returns-clause-variables
returns-clause-variables c =
    subst (λ (vars : List Var). IsTable c.in_ok-variables.variables (numbered (sorts_of_variables vars))) c.as_slice.ensures
    c.in_ok-variables.ensures

pub returns-clause-labels : goal.returns-clause-labels
returns-clause-labels c =
    subst (λ (trees : List (Name × Typed)). IsTable c.in_ok-labels.labels (built_in ++ trees)) c.as_slice-2.ensures
    c.in_ok-labels.ensures

pub returns-clause-nothing : goal.returns-clause-nothing
returns-clause-nothing c = λ name. ap (lookup (bytes_eq name)) c.new.ensures.empty
