use Rattle.std.proofs.Common.{sym, ◌∙◌, bytes_eq}
use Rattle.indexmap.specs.IndexMap.{get}
use Rattle.typecheck.proofs.OwnerLemmas.{owner-added, owner-kept, copied-None, copied-Some}
use Rattle.typecheck.proofs.owners.add_owner.Goals as goal

pub returns-in_ok-insert : goal.returns-in_ok-insert
returns-in_ok-insert c = λ owners is.
    owner-added c.args.name c.args.owner owners (get bytes_eq c.args.table.now) is (get bytes_eq c.insert.new.self)
    (sym c.get.ensures.value ∙ copied-None c.get.result c.is_none.result c.is_none.ensures c.if-is_none.true) (λ q. c.in_ok-insert.ensures.updates.0 q)

pub returns-else-is_none : goal.returns-else-is_none
returns-else-is_none c = λ owners is.
    let there = copied-Some c.get.result c.is_none.result c.is_none.ensures c.if-is_none.false in
    owner-kept c.args.name c.args.owner owners (get bytes_eq c.args.table.now) is there.0 (sym c.get.ensures.value ∙ there.1)
