-- At the end no word is left.
use Rattle.std.proofs.Common.{◌≡◌, map, string_bytes, drop, [], ap, arith}
use Rattle.std.proofs.lemmas.Grind.{common_steps}
use Rattle.smc_settings.proofs.FormLemmas.{at_end}
use Rattle.smc_settings.proofs.options.are_options.Goals as goal

pub returns : goal.returns
returns c =
    let none : drop c.loop-word.word-index c.args.words.now ≡ [] = grind (arith, common_steps, c.loop-word-test.false) in
    let ends = at_end (map (λ known. known.now) c.args.table.now) c.loop-word.waits _ (ap (map string_bytes) none) in
    (λ free. c.loop-word.invariant.1 (ends.1 free), λ has_options. ends.0 (c.loop-word.invariant.0 has_options))
