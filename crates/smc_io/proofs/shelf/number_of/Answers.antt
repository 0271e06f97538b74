use Rattle.std.proofs.Common.{◌∙◌, sym, ap, bytes_eq}
use Rattle.smc_io.proofs.FilesLemmas.{found_at, none_through}
use Rattle.smc_io.proofs.shelf.number_of.Goals as goal

-- the first file that has the name is this one
pub returns-then-eq : goal.returns-then-eq
returns-then-eq c =
    found_at c.args.files.now c.loop-number.number c.index-files-number.result c.args.name.now c.loop-number-test.true c.index-files-number.is c.loop-number.invariant
    (ap (λ key. bytes_eq c.args.name.now key) (sym c.as_str.ensures.value) ∙ sym c.eq.ensures ∙ c.if-eq.true)

-- this file does not have the name either
pub loop-number-preserved : goal.loop-number-preserved
loop-number-preserved c =
    none_through c.args.files.now c.loop-number.number c.index-files-number.result c.args.name.now c.loop-number-test.true c.index-files-number.is c.loop-number.invariant
    (ap (λ key. bytes_eq c.args.name.now key) (sym c.as_str.ensures.value) ∙ sym c.eq.ensures ∙ c.if-eq.false)
