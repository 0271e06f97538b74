use Rattle.std.proofs.Common.{◌≡◌, bytes_eq, map, ◌∙◌, subst}
use Rattle.std.specs.List.{filter_map}
use Rattle.std.proofs.lemmas.List.{take_all}
use Rattle.indexmap.specs.IndexMap.{get}
use Rattle.prism_names.specs.Names.{names_of}
use Rattle.module_expand.proofs.cycles.graph.Goals as goal

pub returns : goal.returns
returns c =
    subst (λ fs. c.loop-formula.graph.items ≡ map (λ f. filter_map (get bytes_eq c.args.places.now)
    (names_of f.body)) fs)
    (take_all c.loop-formula.formula-index c.args.formulas.now c.loop-formula-test.false) c.loop-formula.invariant
    ∙ (λ i. map (λ f. filter_map (λ n. c.requires n i) (names_of f.body)) c.args.formulas.now)
