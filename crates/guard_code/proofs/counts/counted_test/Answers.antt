-- A conditional that is 1 where its test holds, and else 0.
use Rattle.std.proofs.Common.{◌≡◌, pos, rules, w64, to_z, sym, ap, ◌∙◌}
use Rattle.std.proofs.lemmas.Int.{to_z-of_z}
use Rattle.guard_code.proofs.CountLemmas.{counted_part}
use Rattle.guard_code.proofs.counts.counted_test.Goals as goal

pub returns-then-second-eq0 : goal.returns-then-second-eq0
returns-then-second-eq0 c =
    let one : c.in-PlainIf.first ≡ pos 1 = sym (to_z-of_z w64 c.in-PlainIf.first (search rules)) ∙ ap (to_z w64) c.if-first-eq1.true in
    let none : c.in-PlainIf.second ≡ pos 0 = sym (to_z-of_z w64 c.in-PlainIf.second (search rules)) ∙ ap (to_z w64) c.if-second-eq0.true in
    counted_part c.args.part.now c.in-PlainIf.test c.in-PlainIf.first c.in-PlainIf.second c.in-PlainIf.is one none
