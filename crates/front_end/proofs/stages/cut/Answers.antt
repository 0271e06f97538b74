-- A text that is too long, the tokens of one that is not, and the fault of cutting it.
use Rattle.std.proofs.Common.{refl, arith}
use Rattle.std.specs.Prelude.{Err}
use Rattle.smc_report.specs.declared.reason.Reason.{Reason}
use Rattle.smc_report.specs.declared.reason.Reason.TheVariants.{TooLong, Lex}
use Rattle.front_end.specs.Stages.{CutTells, is_long, is_not_cut, is_cut}
use Rattle.front_end.proofs.StopLemmas.{stop_told}
use Rattle.front_end.proofs.StageLemmas.{lex_told}
use Rattle.front_end.proofs.stages.cut.Goals as goal

pub returns-then-text-most-clause-refused : goal.returns-then-text-most-clause-refused
returns-then-text-most-clause-refused c =
    stop_told (λ (reason : Reason). CutTells c.args.subject c.args.most c.args.text.now (Err reason)) (TooLong c.args.subject) c.new.result c.new.ensures
    (λ row. is_long (omega (arith, c.if-text-most.true)))

pub returns-in-Ok-clause-tokens : goal.returns-in-Ok-clause-tokens
returns-in-Ok-clause-tokens c = is_cut (omega (arith, c.if-text-most.false)) c.in-Ok.ensures.ok

pub returns-in-Err-clause-refused : goal.returns-in-Err-clause-refused
returns-in-Err-clause-refused c =
    stop_told (λ (reason : Reason). CutTells c.args.subject c.args.most c.args.text.now (Err reason)) (Lex c.args.subject c.in-Err.fault) c.new-in-Err.result c.new-in-Err.ensures
    (λ row. is_not_cut (omega (arith, c.if-text-most.false))
    (lex_told c.args.subject c.args.text.now _ c.in-Err.fault refl c.in-Err.ensures.too_many.only (λ at. (c.in-Err.ensures.bad_byte at).only)
    (λ at. (c.in-Err.ensures.too_wide at).only) row))
