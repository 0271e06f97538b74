-- The settings of a command are those of its options.
use Rattle.std.proofs.Common.{◌≡◌, ◌∷◌, codes, rules, tests, string_bytes, sym, subst}
use Rattle.std.proofs.lemmas.Result.{IfOk-weaker}
use Rattle.smc_settings.specs.Settings.{IsSettings, check, trace, expand, make, help}
use Rattle.smc_settings.specs.declared.commands.Settings.TheVariants.{Help}
use Rattle.smc_settings.proofs.CutLemmas.{empty_map}
use Rattle.smc_settings.proofs.SettingLemmas.{check_only, trace_only, expand_only, make_only}
use Rattle.smc_settings.proofs.reading.command.Goals as goal

pub returns-in-check-clause-read : goal.returns-in-check-clause-read
returns-in-check-clause-read c =
    let same : c.args.name.now ≡ codes "check" = search (rules, tests) in
    IfOk-weaker c.check.result _ _ (λ settings is. check _ _ settings same is) c.check.ensures.read

pub returns-in-check-clause-refused : goal.returns-in-check-clause-refused
returns-in-check-clause-refused c = λ e settings is.
    let same : c.args.name.now ≡ codes "check" = search (rules, tests) in
    c.check.ensures.refused e settings (check_only _ _ settings same is)

pub returns-in-trace-clause-read : goal.returns-in-trace-clause-read
returns-in-trace-clause-read c =
    let same : c.args.name.now ≡ codes "trace" = search (rules, tests) in
    IfOk-weaker c.trace.result _ _ (λ settings is. trace _ _ settings same is) c.trace.ensures.read

pub returns-in-trace-clause-refused : goal.returns-in-trace-clause-refused
returns-in-trace-clause-refused c = λ e settings is.
    let same : c.args.name.now ≡ codes "trace" = search (rules, tests) in
    c.trace.ensures.refused e settings (trace_only _ _ settings same is)

pub returns-in-expand-clause-read : goal.returns-in-expand-clause-read
returns-in-expand-clause-read c =
    let same : c.args.name.now ≡ codes "expand" = search (rules, tests) in
    IfOk-weaker c.expand.result _ _ (λ settings is. expand _ _ settings same is) c.expand.ensures.read

pub returns-in-expand-clause-refused : goal.returns-in-expand-clause-refused
returns-in-expand-clause-refused c = λ e settings is.
    let same : c.args.name.now ≡ codes "expand" = search (rules, tests) in
    c.expand.ensures.refused e settings (expand_only _ _ settings same is)

pub returns-in-make-clause-read : goal.returns-in-make-clause-read
returns-in-make-clause-read c =
    let same : c.args.name.now ≡ codes "make" = search (rules, tests) in
    IfOk-weaker c.make.result _ _ (λ settings is. make _ _ settings same is) c.make.ensures.read

pub returns-in-make-clause-refused : goal.returns-in-make-clause-refused
returns-in-make-clause-refused c = λ e settings is.
    let same : c.args.name.now ≡ codes "make" = search (rules, tests) in
    c.make.ensures.refused e settings (make_only _ _ settings same is)

pub returns-in-help-clause-read : goal.returns-in-help-clause-read
returns-in-help-clause-read c =
    let same : c.args.name.now ≡ codes "help" = search (rules, tests) in
    subst (λ words. IsSettings (c.args.name.now ∷ words) Help) (sym (empty_map string_bytes c.args.words.now (sym c.if-is_empty.ensures))) (help _ same)
