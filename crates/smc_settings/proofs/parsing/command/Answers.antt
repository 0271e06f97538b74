-- The command grows by an option at a time.
use Rattle.std.proofs.Common.{◌∙◌, ap, get_or, []}
use Rattle.std.specs.Borrow.{Bor}
use Rattle.clap.specs.Words.{app_of, with_rule}
use Rattle.smc_settings.specs.Options.{Text}
use Rattle.smc_settings.specs.Parse.{option_rule}
use Rattle.smc_settings.proofs.TableLemmas.{option_more}
use Rattle.smc_settings.proofs.parsing.command.Goals as goal

pub loop-name-preserved : goal.loop-name-preserved
loop-name-preserved c =
    let d : Bor Text = record { ref_ptr = (0, 0); now = [] } in
    let step = c.in_ok-command.ensures.shape c.option.ensures.own in
    option_more (app_of c.in_ok-command.command) c.args.table.now c.loop-name.name-index d c.loop-name-test.true
    (step ∙ (ap (with_rule (app_of c.loop-name.command)) c.option.ensures.rule ∙ ap (λ app. with_rule app (option_rule (get_or c.args.table.now c.loop-name.name-index d).now)) c.loop-name.invariant))
