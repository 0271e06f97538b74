-- What is written of a report, and how that is answered.
use Rattle.std.proofs.Common.{◌≡◌, ◌∙◌, inl, inr, sym, subst}
use Rattle.smc_top.specs.Outside.{IsCutShort}
use Rattle.smc_top.proofs.PrepareLemmas.{over_is_proper, over_is_done, write_failed}
use Rattle.smc_top.proofs.top.run.Goals as goal

pub returns-in-Ok-clause-done : goal.returns-in-Ok-clause-done
returns-in-Ok-clause-done g c = λ short.
    elim c.written.ensures [
      | inl written ↦ over_is_done _ (g.S.Source.files c.args.source.now) _ c.in-Ok.report c.written.result written.1 c.in-Ok.ensures.report
      | inr failed ↦ absurd (short (subst IsCutShort (sym failed.1) tt))
    ]

pub returns-in-Ok-clause-read_fault : goal.returns-in-Ok-clause-read_fault
returns-in-Ok-clause-read_fault g c = λ is.
    let failed = write_failed c.in-Ok.report c.written.result (over_is_proper _ _ _ c.in-Ok.report c.in-Ok.ensures.report) c.written.ensures (subst IsCutShort (sym is) tt) in
    let same = sym is ∙ failed.1 in absurd cc

pub returns-in-Ok-clause-read_fault_line : goal.returns-in-Ok-clause-read_fault_line
returns-in-Ok-clause-read_fault_line g c = λ is.
    let failed = write_failed c.in-Ok.report c.written.result (over_is_proper _ _ _ c.in-Ok.report c.in-Ok.ensures.report) c.written.ensures (subst IsCutShort (sym is) tt) in
    let same = sym is ∙ failed.1 in absurd cc

pub returns-in-Ok-clause-write_fault : goal.returns-in-Ok-clause-write_fault
returns-in-Ok-clause-write_fault g c = λ is.
    (write_failed c.in-Ok.report c.written.result (over_is_proper _ _ _ c.in-Ok.report c.in-Ok.ensures.report) c.written.ensures (subst IsCutShort (sym is) tt)).0

pub returns-in-Ok-clause-part : goal.returns-in-Ok-clause-part
returns-in-Ok-clause-part g c = λ is none.
    let failed = write_failed c.in-Ok.report c.written.result (over_is_proper _ _ _ c.in-Ok.report c.in-Ok.ensures.report) c.written.ensures (subst IsCutShort (sym is) tt) in
    let over = c.in-Ok.ensures.report in
    (over.0, c.in-Ok.report, over.1, over.2, rw c.as_slice.ensures at failed.2)

pub returns-in-Ok-clause-silent : goal.returns-in-Ok-clause-silent
returns-in-Ok-clause-silent g c = λ is.
    let failed = write_failed c.in-Ok.report c.written.result (over_is_proper _ _ _ c.in-Ok.report c.in-Ok.ensures.report) c.written.ensures (subst IsCutShort (sym is) tt) in
    let same = sym is ∙ failed.1 in absurd cc
