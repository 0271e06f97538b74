use Rattle.std.proofs.Common.{bytes_eq, sym, ap, ◌∙◌, cond}
use Rattle.std.specs.Prelude.{Some, None}
use Rattle.std.specs.Option.{option_copied, option_or}
use Rattle.indexmap.specs.IndexMap.{get}
use Rattle.module_expand.proofs.FirstLemmas.{found_more, copied_or}
use Rattle.module_expand.proofs.renamings.new_names.Goals as goal

pub loop-left-preserved : goal.loop-left-preserved
loop-left-preserved c = λ n.
    ap option_copied (c.in_ok-put_first.ensures n)
    ∙ (copied_or (get bytes_eq c.loop-left.names n) (bytes_eq c.loop-left-item.result.0 n) _
    ∙ (ap (λ o. option_or o (cond (bytes_eq c.loop-left-item.result.0 n) (Some c.loop-left-item.result.1) None))
    (c.loop-left.invariant n)
    ∙ sym (found_more (λ p. p.1) (λ p. bytes_eq p.0 n) c.args.pairs.now c.loop-left.left-index
    c.loop-left-item.result c.loop-left-test.true c.loop-left-item.is)))
