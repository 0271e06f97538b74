-- 1 - a is the rest of the parts over the same denominator.
use Rattle.std.proofs.Common.{◌≡◌, ◌∙◌, sym, Ok, Err}
use Rattle.run_goal.specs.Goal.{complement}
use Rattle.run_goal.proofs.OppositeLemmas.{opposite_made}
use Rattle.run_goal.proofs.probability.complement.Goals as goal

pub unreachable-requires : goal.unreachable-requires
unreachable-requires c =
    let made = opposite_made c.args.a c.den.result c.num.result c.den-2.result c.new.result c.den.ensures.lowest c.requires c.den.ensures.value c.num.ensures.value
    c.den-2.ensures.value c.new.ensures.value in
    let bad = sym c.in-Err.is ∙ made in
    cc

pub returns : goal.returns
returns c =
    let made = opposite_made c.args.a c.den.result c.num.result c.den-2.result c.new.result c.den.ensures.lowest c.requires c.den.ensures.value c.num.ensures.value
    c.den-2.ensures.value c.new.ensures.value in
    let same = sym c.in-Ok.is ∙ made in
    cc
