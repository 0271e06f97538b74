use Rattle.std.proofs.Common.{◌≡◌, List, subst, bytes_eq}
use Rattle.std.specs.Prelude.{None, Some, IfOk, if◌then◌else◌}
use Rattle.indexmap.specs.IndexMap.{get}
use Rattle.prism_syntax.specs.declared.expressions.Expr.{Expr}
use Rattle.prism_names.specs.First.{Name, first_some}
use Rattle.typecheck.specs.Writes.{is_foreign}
use Rattle.typecheck.proofs.writes.foreign_in_branch.Goals as goal

pub returns : goal.returns
returns c =
    subst (λ (sets : List (Name × Expr)). IfOk c.foreign_in_sets.result (λ found. found ≡ first_some (λ (s : Name × Expr). if is_foreign c.args.number (get bytes_eq c.args.owners.now s.0) then Some s.0 else None) sets))
    c.as_slice.ensures c.foreign_in_sets.ensures
