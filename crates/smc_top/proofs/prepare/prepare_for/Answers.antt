-- Settings are answered over the file that they name.
use Rattle.std.proofs.Common.{◌≡◌, ◌⊎◌, ◌∙◌, List, ℕ, Option, Some, IfSome, sym, ap, subst}
use Rattle.std.specs.Io.KnownBytes.{Keeps}
use Rattle.smc_io.specs.Bytes.{Told, TakesAtMost}
use Rattle.smc_io.specs.Files.{bytes_at}
use Rattle.smc_top.specs.Asked.{file_of}
use Rattle.smc_top.proofs.PrepareLemmas.{answers_named, answers_without}
use Rattle.smc_top.proofs.prepare.prepare_for.Goals as goal

pub returns-in-Check-clause-answer : goal.returns-in-Check-clause-answer
returns-in-Check-clause-answer g c =
    let named : file_of c.args.settings.now ≡ Some c.as_str.result.now = ap file_of c.in-Check.is ∙ ap (λ (n : List ℕ). Some n) (sym c.as_str.ensures) in
    answers_named _ c.args.settings.now (g.S.Source.files c.args.source.now) c.as_str.result.now c.prepare_file.result named c.prepare_file.ensures.answer

pub returns-in-Check-clause-taken : goal.returns-in-Check-clause-taken
returns-in-Check-clause-taken g c =
    let named : file_of c.args.settings.now ≡ Some c.as_str.result.now = ap file_of c.in-Check.is ∙ ap (λ (n : List ℕ). Some n) (sym c.as_str.ensures) in
    rw named c.prepare_file.ensures.taken

pub returns-in-Trace-clause-answer : goal.returns-in-Trace-clause-answer
returns-in-Trace-clause-answer g c =
    let named : file_of c.args.settings.now ≡ Some c.as_str-in-Trace.result.now = ap file_of c.in-Trace.is ∙ ap (λ (n : List ℕ). Some n) (sym c.as_str-in-Trace.ensures) in
    answers_named _ c.args.settings.now (g.S.Source.files c.args.source.now) c.as_str-in-Trace.result.now c.prepare_file-in-Trace.result named c.prepare_file-in-Trace.ensures.answer

pub returns-in-Trace-clause-taken : goal.returns-in-Trace-clause-taken
returns-in-Trace-clause-taken g c =
    let named : file_of c.args.settings.now ≡ Some c.as_str-in-Trace.result.now = ap file_of c.in-Trace.is ∙ ap (λ (n : List ℕ). Some n) (sym c.as_str-in-Trace.ensures) in
    rw named c.prepare_file-in-Trace.ensures.taken

pub returns-in-Expand-clause-answer : goal.returns-in-Expand-clause-answer
returns-in-Expand-clause-answer g c =
    let named : file_of c.args.settings.now ≡ Some c.as_str-in-Expand.result.now = ap file_of c.in-Expand.is ∙ ap (λ (n : List ℕ). Some n) (sym c.as_str-in-Expand.ensures) in
    answers_named _ c.args.settings.now (g.S.Source.files c.args.source.now) c.as_str-in-Expand.result.now c.prepare_file-in-Expand.result named c.prepare_file-in-Expand.ensures.answer

pub returns-in-Expand-clause-taken : goal.returns-in-Expand-clause-taken
returns-in-Expand-clause-taken g c =
    let named : file_of c.args.settings.now ≡ Some c.as_str-in-Expand.result.now = ap file_of c.in-Expand.is ∙ ap (λ (n : List ℕ). Some n) (sym c.as_str-in-Expand.ensures) in
    rw named c.prepare_file-in-Expand.ensures.taken

pub returns-in-Make-clause-answer : goal.returns-in-Make-clause-answer
returns-in-Make-clause-answer g c =
    answers_without _ c.args.settings.now (g.S.Source.files c.args.source.now) (ap file_of c.in-Make.is) c.answer.result c.lacking_memory.result c.lacking_memory.ensures c.answer.ensures

pub returns-in-Help-clause-answer : goal.returns-in-Help-clause-answer
returns-in-Help-clause-answer g c =
    answers_without _ c.args.settings.now (g.S.Source.files c.args.source.now) (ap file_of c.in-Help.is) c.answer-in-Help.result c.lacking_memory-in-Help.result c.lacking_memory-in-Help.ensures c.answer-in-Help.ensures
