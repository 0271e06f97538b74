use Rattle.std.proofs.Common.{bytes_eq, sym, ap, ◌∙◌, cond}
use Rattle.std.specs.Prelude.{Some, None}
use Rattle.std.specs.Option.{option_or}
use Rattle.prism_syntax.specs.declared.expressions.Expr.TheVariants as e
use Rattle.module_expand.proofs.FirstLemmas.{found_more}
use Rattle.module_expand.proofs.properties.body_trees.Goals as goal

pub loop-formula-preserved : goal.loop-formula-preserved
loop-formula-preserved c = λ n.
    let f = c.formula-item.result in
    c.in_ok-put_body.ensures n
    ∙ (ap (λ o. option_or o (cond (bytes_eq f.name n) (Some (e.Paren f.body)) None)) (c.loop-formula.invariant n)
    ∙ sym (found_more (λ g. e.Paren g.body) (λ g. bytes_eq g.name n) c.args.formulas.now c.loop-formula.formula-index
    f c.loop-formula-test.true c.formula-item.is))
