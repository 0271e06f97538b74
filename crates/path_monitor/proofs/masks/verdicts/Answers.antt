-- each kind of formula, at its last pair and before it
use Rattle.path_monitor.proofs.BitLemmas.{is_same, is_other, next_at_last, finally_at_last, globally_at_last, globally_before, until_at_last, until_before}
use Rattle.path_monitor.proofs.masks.verdicts.Goals as goal

pub returns-else-seen-eq0 : goal.returns-else-seen-eq0
returns-else-seen-eq0 c l low p q first second = rw c.in-Next.is (next_at_last l c.args.seen c.args.first c.args.second p q low (is_other c.args.seen 0 c.if-seen-eq0.false) second)

pub returns-then-seen-horizon : goal.returns-then-seen-horizon
returns-then-seen-horizon c l low p q first second =
    rw c.in-Finally.is (finally_at_last l c.in-Finally.horizon c.args.seen c.args.first c.args.second p q low (is_same c.args.seen c.in-Finally.horizon c.if-seen-horizon.true) second)

pub returns-then-seen-horizon-2 : goal.returns-then-seen-horizon-2
returns-then-seen-horizon-2 c l low p q first second =
    rw c.in-Globally.is (globally_at_last l c.in-Globally.horizon c.args.seen c.args.first c.args.second p q low (is_same c.args.seen c.in-Globally.horizon c.if-seen-horizon-2.true) second)

pub returns-else-seen-horizon-2 : goal.returns-else-seen-horizon-2
returns-else-seen-horizon-2 c l low p q first second =
    rw c.in-Globally.is (globally_before l c.in-Globally.horizon c.args.seen c.args.second p q low (is_other c.args.seen c.in-Globally.horizon c.if-seen-horizon-2.false) second)

pub returns-then-seen-horizon-3 : goal.returns-then-seen-horizon-3
returns-then-seen-horizon-3 c l low p q first second =
    rw c.in-Until.is (until_at_last l c.in-Until.horizon c.args.seen c.args.first c.args.second p q low (is_same c.args.seen c.in-Until.horizon c.if-seen-horizon-3.true) second)

pub returns-else-seen-horizon-3 : goal.returns-else-seen-horizon-3
returns-else-seen-horizon-3 c l low p q first second =
    rw c.in-Until.is (until_before l c.in-Until.horizon c.args.seen c.args.first c.args.second p q low (is_other c.args.seen c.in-Until.horizon c.if-seen-horizon-3.false) first second)
