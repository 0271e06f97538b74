use Rattle.std.proofs.Common.{◌≡◌, List, ℕ, Contains, sym, ap, ◌∙◌, subst, map}
use Rattle.prism_names.specs.First.{Name}
use Rattle.prism_names.specs.Names.{names_of}
use Rattle.const_eval.proofs.AgreeLemmas.{agrees}
use Rattle.typed_trees.specs.Numbers.{value_of_name}
use Rattle.typed_trees.proofs.numbers.constant_value.Goals as goal

pub returns : goal.returns
returns c =
    let names : map (λ name. name.now) c.as_slice.result.now ≡ names_of c.args.expr.now = ap (map (λ name. name.now)) c.as_slice.ensures.value ∙ c.in_ok-names.ensures in
    c.value.ensures ∙ agrees _ (value_of_name c.args.consts.now) c.args.expr.now
    (λ n has. c.in_ok-table.ensures n (subst (λ (list : List Name). Contains list n) (sym names) has))
