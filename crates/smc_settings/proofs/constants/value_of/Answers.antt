-- The two truth values are spelled by their words.
use Rattle.std.proofs.Common.{subst, sym, ◌≡◌, codes, true, false, rules, tests}
use Rattle.chain_model.specs.declared.values.Sort.TheVariants as sort
use Rattle.chain_model.specs.declared.values.Value.TheVariants as value
use Rattle.smc_settings.specs.Constants.{IsValueOf, holds, fails}
use Rattle.smc_settings.proofs.constants.value_of.Goals as goal

pub returns-then-eq-clause-found : goal.returns-then-eq-clause-found
returns-then-eq-clause-found c =
    let same : c.args.text.now ≡ codes "true" = search (rules, tests) in
    subst (λ t. IsValueOf t sort.Bool (value.Bool true)) (sym same) holds

pub returns-then-eq-2-clause-found : goal.returns-then-eq-2-clause-found
returns-then-eq-2-clause-found c =
    let same : c.args.text.now ≡ codes "false" = search (rules, tests) in
    subst (λ t. IsValueOf t sort.Bool (value.Bool false)) (sym same) fails
