use Rattle.std.proofs.Common.{List, bytes_eq, sym, subst}
use Rattle.std.specs.Prelude.{IsTrue, ◌↔◌}
use Rattle.std.proofs.lemmas.Result.{IfOk-weaker}
use Rattle.indexmap.specs.IndexMap.{get}
use Rattle.prism_syntax.specs.declared.models.Named.{Named}
use Rattle.module_expand.specs.Expanded.{AreExpanded, stands_for}
use Rattle.module_expand.specs.Flat.{flat_of}
use Rattle.module_expand.specs.Listed.{IsTooLarge}
use Rattle.module_expand.specs.Sizes.{AreSizes}
use Rattle.module_expand.proofs.expanding.flat_is_too_large.Goals as goal

pub returns : goal.returns
returns c =
    let m = c.args.model.now in
    let table = get bytes_eq c.in_ok-sizes.sizes in
    IfOk-weaker c.is_too_large.result
    (λ large. (trees : List Named) → AreExpanded m.formulas trees → AreSizes table (stands_for trees)
    → (IsTrue large ↔ IsTooLarge (flat_of m trees)))
    (λ large. (trees : List Named) → AreExpanded m.formulas trees → (IsTrue large ↔ IsTooLarge (flat_of m trees)))
    (λ large told trees expanded. told trees expanded (c.in_ok-sizes.ensures trees
    (subst (λ fs. AreExpanded fs trees) (sym c.as_slice.ensures) expanded))) c.is_too_large.ensures
