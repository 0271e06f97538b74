use Rattle.std.proofs.Common.{◌^◌, sym, subst, unsigned_abs}
use Rattle.std.proofs.lemmas.Bool.{leb-false, ltb-false}
use Rattle.wald_test.specs.Settings.{errors_of}
use Rattle.wald_test.proofs.SettingsLemmas.{AreErrors, error_between, errors_known}
use Rattle.wald_test.proofs.settings.errors.Goals as goal

pub returns-clause-value : goal.returns-clause-value
unfolding errors_of
returns-clause-value c = cc

-- what is known of the terms
known : (c : goal.After-least) → AreErrors c.least.result
unfolding errors_of
known c =
    subst AreErrors (sym (returns-clause-value c))
    (errors_known (unsigned_abs c.args.alpha.num) c.args.alpha.den (unsigned_abs c.args.beta.num) c.args.beta.den
    (error_between c.args.alpha.num c.args.alpha.den c.requires.alpha) (error_between c.args.beta.num c.args.beta.den c.requires.beta)
    (ltb-false (2 ^ 31) c.args.alpha.den c.requires.alpha_small) (ltb-false (2 ^ 31) c.args.beta.den c.requires.beta_small)
    (leb-false _ _ c.requires.sum))

pub returns-clause-alpha_some : goal.returns-clause-alpha_some
returns-clause-alpha_some c = (known c).alpha_some

pub returns-clause-beta_some : goal.returns-clause-beta_some
returns-clause-beta_some c = (known c).beta_some

pub returns-clause-sum : goal.returns-clause-sum
returns-clause-sum c = (known c).sum

pub returns-clause-small : goal.returns-clause-small
returns-clause-small c = (known c).small
