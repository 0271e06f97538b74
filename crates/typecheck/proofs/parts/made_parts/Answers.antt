use Rattle.std.proofs.Common.{◌≡◌, [], ℕ, Option, List, map, ap, ◌∙◌, bytes_eq}
use Rattle.std.specs.Prelude.{filter_map}
use Rattle.std.proofs.lemmas.Result.{IfOk-weaker}
use Rattle.indexmap.specs.IndexMap.{get}
use Rattle.chain_model.specs.Values.{Valued}
use Rattle.prism_syntax.specs.declared.expressions.Expr.{Expr}
use Rattle.prism_syntax.specs.declared.commands.Command.{Command}
use Rattle.prism_syntax.specs.declared.models.Variable.{Variable}
use Rattle.prism_names.specs.First.{Name}
use Rattle.typed_trees.specs.Numbers.{constant_value}
use Rattle.typed_trees.specs.Scopes.{tree_in}
use Rattle.typecheck.specs.declared.parts.Parts.{Parts}
use Rattle.typecheck.specs.Declarations.{first_appearances}
use Rattle.typecheck.specs.Parts.{made_variable, made_parts}
use Rattle.typecheck.proofs.parts.made_parts.Goals as goal

pub returns-clause-made : goal.returns-clause-made
returns-clause-made c =
    let listed : List (Option ℕ × Variable) = map {B = Option ℕ × Variable} (λ v. (v.0, v.1.now)) c.args.variables.now in
    let whole : (Expr → Valued) → List (Option ℕ × Variable) → List Name → Option Parts = λ values variables names.
    made_parts values (tree_in c.args.scope.now) (get bytes_eq c.args.scope.now.variables.now) variables
    (map {B = ℕ × Command} (λ d. (d.0, d.1.now)) c.args.commands.now) c.args.flat.now.labels c.args.flat.now.modules names in
    let values = constant_value c.args.scope.now.consts.now in
    IfOk-weaker c.parts_with.result
    (λ (found : Option Parts). (values : Expr → Valued) (variables : List (Option ℕ × Variable)) → c.in_ok-vars.vars ≡ map (made_variable values) variables
    → found ≡ whole values variables c.in_ok-names.names.keys)
    (λ found. found ≡ whole values listed (first_appearances [] (filter_map (λ d. d.1.now.action) c.args.commands.now)))
    (λ found told. told values listed c.in_ok-vars.ensures.made ∙ ap (whole values listed) c.in_ok-names.ensures) c.parts_with.ensures
