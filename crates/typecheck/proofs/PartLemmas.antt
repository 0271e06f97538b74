-- The parts of a chain, made one by one.
use Rattle.std.proofs.Common.{◌≡◌, ℕ, List, Option, map, sym, ap, ◌∙◌, subst}
use Rattle.std.specs.Prelude.{Some}
use Rattle.chain_model.specs.declared.expressions.Typed.{Typed}
use Rattle.chain_model.specs.declared.chain.Var.{Var}
use Rattle.chain_model.specs.declared.chain.Action.{Action}
use Rattle.chain_model.specs.declared.chain.Act.{Act}
use Rattle.chain_model.specs.Sorts.{◌>>=◌}
use Rattle.chain_model.specs.Values.{Valued}
use Rattle.prism_syntax.specs.declared.expressions.Expr.{Expr}
use Rattle.prism_syntax.specs.declared.commands.Command.{Command}
use Rattle.prism_syntax.specs.declared.models.Named.{Named}
use Rattle.prism_syntax.specs.declared.models.Variable.{Variable}
use Rattle.prism_syntax.specs.declared.models.Module.{Module}
use Rattle.prism_names.specs.First.{Name}
use Rattle.typecheck.specs.declared.parts.Parts.{Parts}
use Rattle.typecheck.specs.Declarations.{module_name}
use Rattle.typecheck.specs.Parts.{all_made, made_variable, made_command, made_label, made_actions, made_parts}

module _ (values : Expr → Valued) (tree : Expr → Option Typed) (variables : Name → Option Typed) (vars : List (Option ℕ × Variable)) (commands : List (ℕ × Command))
    (labels : List Named) (modules : List Module) where
  -- where commands and labels are made, the parts are there
  pub parts-there : (names : List Name) (acts : List Act) (bodies : List (Name × Typed)) → all_made (map (made_command tree variables names) commands) ≡ Some acts
      → all_made (map (made_label tree) labels) ≡ Some bodies
      → made_parts values tree variables vars commands labels modules names
      ≡ Some (record { vars = map (made_variable values) vars; actions = made_actions acts names; modules = map module_name modules; commands = acts; labels = bodies })
  parts-there names acts bodies one two =
      let whole : List Act → List (Name × Typed) → Option Parts = λ made all. Some (record {
        vars = map (made_variable values) vars;
        actions = made_actions made names;
        modules = map module_name modules;
        commands = made;
        labels = all;
      }) in
      ap (λ (o : Option (List Act)). o >>= λ made. all_made (map (made_label tree) labels) >>= λ all. whole made all) one
      ∙ ap (λ (o : Option (List (Name × Typed))). o >>= λ all. whole acts all) two

  pub parts-are : (keys names : List Name) (acts : List Act) (bodies : List (Name × Typed)) (made : List Var) (actions : List Action) (titles : List Name) → keys ≡ names
      → all_made (map (made_command tree variables keys) commands) ≡ Some acts → all_made (map (made_label tree) labels) ≡ Some bodies
      → made ≡ map (made_variable values) vars → actions ≡ made_actions acts keys → titles ≡ map module_name modules
      → Some (record { vars = made; actions = actions; modules = titles; commands = acts; labels = bodies })
      ≡ made_parts values tree variables vars commands labels modules names
  parts-are keys names acts bodies made actions titles same one two three four five =
      subst (λ (ns : List Name). Some (record { vars = made; actions = actions; modules = titles; commands = acts; labels = bodies })
      ≡ made_parts values tree variables vars commands labels modules ns) same
      ((λ i. Some (record { vars = three i; actions = four i; modules = five i; commands = acts; labels = bodies }))
      ∙ sym (parts-there keys acts bodies one two))
