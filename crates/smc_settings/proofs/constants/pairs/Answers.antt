-- Each pair is read once, and none is left out.
use Rattle.std.proofs.Common.{◌≡◌, ◌++◌, ◌∷◌, [], ap, Err, rules}
use Rattle.smc_settings.specs.declared.usage.Usage.TheVariants.{Words}
use Rattle.smc_settings.proofs.PairsLemmas.{read_more, read_all, read_no_more, read_no_last}
use Rattle.smc_settings.proofs.constants.pairs.Goals as goal

pub pairs-preserved : goal.pairs-preserved
pairs-preserved c =
    let pushed : c.push.new.self ≡ c.pairs.given ++ c.in-Ok.constant ∷ [] = search rules in
    read_more c.args.text.now c.pairs.rest.now c.in-Some.first.now c.in-Some.others.now c.pairs.given c.push.new.self c.in-Ok.constant
    c.in-Some.ensures.0 c.in-Some.ensures.1 c.in-Ok.ensures.read pushed c.pairs.invariant

pub returns-in-Err-clause-refused : goal.returns-in-Err-clause-refused
returns-in-Err-clause-refused c = λ e.
    let same : c.in-Err.fault ≡ Words = cc e in
    read_no_more c.args.text.now c.pairs.rest.now c.in-Some.first.now c.in-Some.others.now c.pairs.given
    c.in-Some.ensures.0 c.in-Some.ensures.1 (c.in-Err.ensures.refused (ap Err same)) c.pairs.invariant

pub returns-in-Err-pair-clause-refused : goal.returns-in-Err-pair-clause-refused
returns-in-Err-pair-clause-refused c = λ e.
    let same : c.in-Err-pair.fault ≡ Words = cc e in
    read_no_last c.args.text.now c.pairs.rest.now c.pairs.given c.in_default.ensures (c.in-Err-pair.ensures.refused (ap Err same)) c.pairs.invariant

pub returns-clause-read : goal.returns-clause-read
returns-clause-read c =
    let pushed : c.push-in-Ok-pair.new.self ≡ c.pairs.given ++ c.in-Ok-pair.constant ∷ [] = search rules in
    read_all c.args.text.now c.pairs.rest.now c.pairs.given c.push-in-Ok-pair.new.self c.in-Ok-pair.constant c.in-Ok-pair.ensures.read pushed c.pairs.invariant
