use Rattle.std.proofs.Common.{ap, bytes_eq}
use Rattle.std.specs.Map.{lookup}
use Rattle.typecheck.proofs.tables.built_in_table.Goals as goal

pub returns : goal.returns
returns c = c.in_ok-add_built_in.ensures (λ name. ap (lookup (bytes_eq name)) c.new-table.ensures.empty)
