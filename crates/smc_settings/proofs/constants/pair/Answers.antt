-- A pair is cut at its first `=`.
use Rattle.std.proofs.Common.{subst}
use Rattle.prism_syntax.specs.Tokens.{IsWord, IsFree}
use Rattle.smc_settings.specs.Constants.{IsValueOf}
use Rattle.smc_settings.proofs.ConstantLemmas.{pair_parts}
use Rattle.smc_settings.proofs.constants.pair.Goals as goal

pub returns-then-not-is_name-clause-refused : goal.returns-then-not-is_name-clause-refused
returns-then-not-is_name-clause-refused c = λ _ given is.
    let parts = pair_parts c.args.text.now c.in-Some.name.now c.in-Some.value.now given c.in-Some.ensures.0 c.in-Some.ensures.1 is in
    let yes = c.is_name.ensures.1 (subst (λ t. IsWord t) parts.0 is.word, subst (λ t. IsFree t) parts.0 is.free) in
    let no = c.if-not-is_name.true in cc

pub returns-in_default-value_of-clause-refused : goal.returns-in_default-value_of-clause-refused
returns-in_default-value_of-clause-refused c = λ _ given is.
    let parts = pair_parts c.args.text.now c.in-Some.name.now c.in-Some.value.now given c.in-Some.ensures.0 c.in-Some.ensures.1 is in
    c.in_default-value_of.ensures.none given.sort given.value (subst (λ t. IsValueOf t given.sort given.value) parts.1 is.is_value)
