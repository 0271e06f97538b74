use Rattle.std.proofs.Common.{◌≡◌, List, map, bytes_eq, refl, sym, subst}
use Rattle.std.proofs.lemmas.Result.{IfOk-weaker}
use Rattle.indexmap.specs.IndexMap.{get}
use Rattle.prism_syntax.specs.declared.models.Named.{Named}
use Rattle.prism_names.specs.First.{Name, AreDistinct}
use Rattle.module_expand.specs.Expanded.{AreExpanded, stands_for}
use Rattle.module_expand.specs.Flat.{flat_of, IsFlat}
use Rattle.module_expand.proofs.ExistsLemmas.{has_expansion}
use Rattle.module_expand.proofs.expanding.written_out.Goals as goal

pub formula_trees-requires-clause-distinct : goal.formula_trees-requires-clause-distinct
formula_trees-requires-clause-distinct c =
    subst (λ fs. AreDistinct (map (λ f. f.name) fs)) (sym c.as_slice.ensures) c.requires.distinct

pub returns : goal.returns
returns c =
    let m = c.args.model.now in
    let whole = has_expansion m.formulas c.args.order.now c.requires.order c.requires.distinct in
    let trees : (name : Name) → get bytes_eq c.in_ok-trees.trees name ≡ stands_for whole.trees name =
    c.in_ok-trees.ensures whole.trees (subst (λ fs. AreExpanded fs whole.trees) (sym c.as_slice.ensures) whole.expanded) in
    IfOk-weaker c.flatten.result (λ flat. (formulas : List Named) → AreExpanded m.formulas formulas
    → ((name : Name) → get bytes_eq c.in_ok-trees.trees name ≡ stands_for formulas name) → flat
    ≡ flat_of m formulas) (IsFlat m)
    (λ flat made. subst (IsFlat m) (sym (made whole.trees whole.expanded trees))
    (record { formulas = whole.expanded; rest = refl })) c.flatten.ensures
