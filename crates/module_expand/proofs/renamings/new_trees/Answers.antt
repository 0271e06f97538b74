use Rattle.std.proofs.Common.{bytes_eq, sym, ap, ◌∙◌, cond}
use Rattle.std.specs.Prelude.{Some, None}
use Rattle.std.specs.Option.{option_map, option_or}
use Rattle.indexmap.specs.IndexMap.{get}
use Rattle.prism_syntax.specs.declared.expressions.Expr.TheVariants as e
use Rattle.module_expand.proofs.FirstLemmas.{found_more, map_or_cond}
use Rattle.module_expand.proofs.renamings.new_trees.Goals as goal

pub loop-left-preserved : goal.loop-left-preserved
loop-left-preserved c = λ n.
    c.in_ok-put_first.ensures n
    ∙ (ap (λ z. option_or (get bytes_eq c.loop-left.trees n) (cond (bytes_eq c.loop-left-item.result.0 n)
    (Some (e.Name z)) None)) c.in_ok-copy.ensures
    ∙ (ap (λ o. option_or o (cond (bytes_eq c.loop-left-item.result.0 n) (Some (e.Name c.loop-left-item.result.1))
    None)) (c.loop-left.invariant n)
    ∙ (sym (map_or_cond (λ m. e.Name m) _ (bytes_eq c.loop-left-item.result.0 n) c.loop-left-item.result.1)
    ∙ ap (option_map (λ m. e.Name m))
    (sym (found_more (λ p. p.1) (λ p. bytes_eq p.0 n) c.args.pairs.now c.loop-left.left-index
    c.loop-left-item.result c.loop-left-test.true c.loop-left-item.is)))))
