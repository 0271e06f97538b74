use Rattle.std.proofs.Common.{nat_eq, ap, ◌∙◌}
use Rattle.std.specs.List.{dedup}
use Rattle.std.proofs.lemmas.List.Filters.{dedup_is}
use Rattle.typecheck.proofs.actions.taking.Goals as goal

pub returns : goal.returns
returns c =
    c.from_vec.ensures ∙ (dedup_is nat_eq _ _ c.dedup.ensures.filtered ∙ ap (dedup nat_eq) c.in_ok-modules.ensures)
