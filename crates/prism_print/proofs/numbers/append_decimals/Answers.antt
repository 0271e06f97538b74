use Rattle.prism_print.specs.Decimals.{digit_after_point}
use Rattle.prism_print.proofs.TextLemmas.{digit_appended}
use Rattle.prism_print.proofs.numbers.append_decimals.Goals as goal

pub loop-place-preserved : goal.loop-place-preserved
loop-place-preserved c =
    digit_appended (digit_after_point c.args.value) c.loop-place.place c.args.text.now.items c.loop-place.text.items
    c.push.new.self.items c.digit_after_point.result c.loop-place.invariant c.digit_after_point.ensures
    c.in_ok-push.ensures.items
