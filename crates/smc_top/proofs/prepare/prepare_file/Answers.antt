-- What was read is answered over the source's files.
use Rattle.std.proofs.Common.{◌≡◌, Err, ap, string_bytes}
use Rattle.smc_io.specs.Bytes.{Told}
use Rattle.smc_io.specs.declared.whole_read.ReadAll.{ReadAll}
use Rattle.smc_io.specs.Files.{bytes_at}
use Rattle.smc_top.proofs.FileLemmas.{taken_of}
use Rattle.smc_top.proofs.PrepareLemmas.{answers_read, answers_long}
use Rattle.smc_top.proofs.prepare.prepare_file.Goals as goal

pub returns-in-Ok-read_all-clause-answer : goal.returns-in-Ok-read_all-clause-answer
returns-in-Ok-read_all-clause-answer g c =
    let told = g.S.Source.files c.args.source.now in
    let whole : Told told (λ files. c.as_slice.result.now ≡ bytes_at files (string_bytes c.in-Ok.name)) = rw c.as_slice.ensures.value c.in-Ok-read_all.ensures.whole in
    answers_read _ c.args.settings.now told (string_bytes c.in-Ok.name) c.args.name.now c.as_slice.result.now c.in-Ok.ensures.ok whole c.answer.result c.lacking_memory.result c.lacking_memory.ensures c.answer.ensures

pub returns-in-Err-TooLong-clause-answer : goal.returns-in-Err-TooLong-clause-answer
returns-in-Err-TooLong-clause-answer g c =
    let told = g.S.Source.files c.args.source.now in
    answers_long _ c.args.settings.now told (string_bytes c.in-Ok.name) c.args.name.now c.in-Ok.ensures.ok c.requires.name (c.in-Err-TooLong.ensures.long (ap (λ (v : ReadAll). Err v) c.in-Err-TooLong.field-0-is))
    c.refused_for.result c.lacking_memory-in-Err-TooLong.result c.lacking_memory-in-Err-TooLong.ensures c.refused_for.ensures

pub returns-in-Ok-read_all-clause-taken : goal.returns-in-Ok-read_all-clause-taken
returns-in-Ok-read_all-clause-taken g c =
    taken_of (g.S.Source.files c.args.source.now) (string_bytes c.in-Ok.name) c.args.name.now c.in-Ok.ensures.ok 1048577 _ _ _ c.in-Ok-read_all.ensures.taken

pub returns-in-Err-TooLong-clause-taken : goal.returns-in-Err-TooLong-clause-taken
returns-in-Err-TooLong-clause-taken g c =
    taken_of (g.S.Source.files c.args.source.now) (string_bytes c.in-Ok.name) c.args.name.now c.in-Ok.ensures.ok 1048577 _ _ _ c.in-Err-TooLong.ensures.taken

pub returns-in-Err-Fault-clause-taken : goal.returns-in-Err-Fault-clause-taken
returns-in-Err-Fault-clause-taken g c =
    taken_of (g.S.Source.files c.args.source.now) (string_bytes c.in-Ok.name) c.args.name.now c.in-Ok.ensures.ok 1048577 _ _ _ c.in-Err-Fault.ensures.taken

pub returns-clause-taken : goal.returns-clause-taken
returns-clause-taken g c =
    taken_of (g.S.Source.files c.args.source.now) (string_bytes c.in-Ok.name) c.args.name.now c.in-Ok.ensures.ok 1048577 _ _ _ c.in-Err-OutOfMemory.ensures.taken
