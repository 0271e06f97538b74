use Rattle.std.proofs.Common.{bytes_eq, sym, ap, ◌∙◌, cond}
use Rattle.std.specs.Prelude.{Some, None}
use Rattle.std.specs.Option.{option_map, option_or}
use Rattle.indexmap.specs.IndexMap.{get}
use Rattle.prism_syntax.specs.declared.expressions.Expr.TheVariants as e
use Rattle.module_expand.specs.Sizes.{size_of}
use Rattle.module_expand.proofs.FirstLemmas.{found_more, map_or_cond}
use Rattle.module_expand.proofs.SizeLemmas.{size-paren, size-of}
use Rattle.module_expand.proofs.properties.body_sizes.Goals as goal

pub loop-formula-preserved : goal.loop-formula-preserved
loop-formula-preserved c = λ n.
    let f = c.formula-item.result in
    let size = size-of c.in_parens-size.result (e.Paren f.body) (size-paren c.own_size.result c.in_parens-size.result
    f.body c.in_parens-size.ensures.nodes c.in_parens-size.ensures.depth c.own_size.ensures) in
    c.in_ok-put_first.ensures n
    ∙ (ap (λ s. option_or (get bytes_eq c.loop-formula.sizes n) (cond (bytes_eq f.name n) (Some s) None)) size
    ∙ (ap (λ o. option_or o (cond (bytes_eq f.name n) (Some (size_of (e.Paren f.body))) None))
    (c.loop-formula.invariant n)
    ∙ (sym (map_or_cond size_of _ (bytes_eq f.name n) (e.Paren f.body))
    ∙ ap (option_map size_of) (sym (found_more (λ g. e.Paren g.body) (λ g. bytes_eq g.name n)
    c.args.formulas.now c.loop-formula.formula-index f c.loop-formula-test.true c.formula-item.is)))))
