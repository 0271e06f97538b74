-- The report of a run has what was drawn.
use Rattle.std.proofs.Common.{◌≡◌, ◌∙◌, ℕ, List, ap}
use Rattle.smc_report.specs.Causes.{cause_text}
use Rattle.smc_report.specs.Report.{check_report}
use Rattle.smc_top.specs.declared.report.Report.{Report}
use Rattle.smc_top.proofs.RunLemmas.{told_fault}
use Rattle.smc_top.proofs.checking.sampled.Goals as goal

pub returns : goal.returns
returns g c =
    let made = c.new.ensures in
    let end = c.in_ok-drawn.drawn.end in
    record {
      end = end;
      ends = c.in_ok-drawn.ensures.end;
      lines = c.in_ok-drawn.drawn.lines.items;
      observed = c.in_ok-drawn.ensures.lines;
      step = c.unwrap_or-step.result.0;
      fault = c.unwrap_or-step.result.1;
      faulted = told_fault c.args.asked.now.job end c.in_ok-drawn.drawn.fault _ c.unwrap_or-step.result c.in_ok-drawn.ensures.fault c.unwrap_or-step.ensures;
      status = ap (λ (r : Report). r.status) made ∙ c.of_run.ensures;
      bytes = ap (λ (r : Report). r.bytes) made ∙ (c.in_ok-bytes.ensures
          ∙ (ap (λ (text : List ℕ). check_report c.args.settings.now c.args.asked.now.claim end c.unwrap_or-step.result.0 text c.as_slice-2.result.now) (c.as_slice.ensures.value ∙ c.in_ok-cause.ensures)
          ∙ ap (λ (lines : List (List ℕ)). check_report c.args.settings.now c.args.asked.now.claim end c.unwrap_or-step.result.0 (cause_text c.args.asked.now.job.chain c.unwrap_or-step.result.1) lines) c.as_slice-2.ensures.value));
    }
