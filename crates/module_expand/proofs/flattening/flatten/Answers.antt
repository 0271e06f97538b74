use Rattle.std.proofs.Common.{map, bytes_eq, ap, ◌∙◌, refl}
use Rattle.indexmap.specs.IndexMap.{get}
use Rattle.prism_syntax.specs.declared.models.FlatText.{FlatText}
use Rattle.module_expand.specs.Renamed.{no_names}
use Rattle.module_expand.specs.Flat.{flat_module}
use Rattle.module_expand.proofs.FlattenLemmas.{flat_parts}
use Rattle.module_expand.proofs.flattening.flatten.Goals as goal

pub returns : goal.returns
returns c = λ formulas expanded are.
    let by = get bytes_eq c.args.trees.now in
    let flat : FlatText = record {
      consts = c.in_ok-consts.consts;
      globals = c.in_ok-consts.globals;
      formulas = c.in_ok-formulas.formulas;
      modules = c.in_ok-modules.modules;
      labels = c.in_ok-formulas.labels;
    } in
    flat_parts c.args.model.now formulas by no_names flat expanded are (λ n. refl)
    c.in_ok-consts.ensures.consts c.in_ok-consts.ensures.globals c.in_ok-formulas.ensures.formulas
    (c.in_ok-modules.ensures ∙ ap (λ ms. map (flat_module ms by) ms) c.as_slice.ensures)
    c.in_ok-formulas.ensures.labels
