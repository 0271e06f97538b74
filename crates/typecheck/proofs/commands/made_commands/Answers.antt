use Rattle.std.proofs.Common.{ℕ, List, Bor, Option, bytes_eq, ◌∙◌, sym, refl, map}
use Rattle.indexmap.specs.IndexMap.{get}
use Rattle.prism_syntax.specs.declared.commands.Command.{Command}
use Rattle.chain_model.specs.declared.chain.Act.{Act}
use Rattle.typed_trees.specs.Scopes.{tree_in}
use Rattle.typecheck.specs.Parts.{all_made, made_command}
use Rattle.typecheck.proofs.MakingLemmas.{one_made, one_missing, all_there}
use Rattle.typecheck.proofs.commands.made_commands.Goals as goal

pub loop-command-preserved : goal.loop-command-preserved
loop-command-preserved c =
    let parts : List (ℕ × Bor Command) → List (Option Act) = (λ xs. map (made_command (tree_in c.args.scope.now) (get bytes_eq c.args.scope.now.variables.now) c.args.names.now.keys) (map {B = ℕ × Command} (λ d. (d.0, d.1.now)) xs)) in
    let part : ℕ × Bor Command → Option Act = (λ d. made_command (tree_in c.args.scope.now) (get bytes_eq c.args.scope.now.variables.now) c.args.names.now.keys (d.0, d.1.now)) in
    one_made parts part (λ x xs. refl) c.args.commands.now c.loop-command.command-index c.loop-command.acts (all_made (parts c.args.commands.now))
    c.loop-command.invariant c.command-item.result c.push.new.self c.in-Some.act c.loop-command-test.true c.command-item.is
    (sym c.in-Some.is ∙ c.in_ok-act.ensures) c.in_ok-push-in-Some.ensures.ok

pub returns-in-None : goal.returns-in-None
returns-in-None c =
    let parts : List (ℕ × Bor Command) → List (Option Act) = (λ xs. map (made_command (tree_in c.args.scope.now) (get bytes_eq c.args.scope.now.variables.now) c.args.names.now.keys) (map {B = ℕ × Command} (λ d. (d.0, d.1.now)) xs)) in
    let part : ℕ × Bor Command → Option Act = (λ d. made_command (tree_in c.args.scope.now) (get bytes_eq c.args.scope.now.variables.now) c.args.names.now.keys (d.0, d.1.now)) in
    one_missing parts part (λ x xs. refl) c.args.commands.now c.loop-command.command-index c.loop-command.acts (all_made (parts c.args.commands.now))
    c.loop-command.invariant c.command-item.result c.loop-command-test.true c.command-item.is (sym c.in-None.is ∙ c.in_ok-act.ensures)

pub returns : goal.returns
returns c =
    let parts : List (ℕ × Bor Command) → List (Option Act) = (λ xs. map (made_command (tree_in c.args.scope.now) (get bytes_eq c.args.scope.now.variables.now) c.args.names.now.keys) (map {B = ℕ × Command} (λ d. (d.0, d.1.now)) xs)) in
    let part : ℕ × Bor Command → Option Act = (λ d. made_command (tree_in c.args.scope.now) (get bytes_eq c.args.scope.now.variables.now) c.args.names.now.keys (d.0, d.1.now)) in
    all_there parts part (λ x xs. refl) c.args.commands.now c.loop-command.command-index c.loop-command.acts (all_made (parts c.args.commands.now))
    c.loop-command.invariant refl c.loop-command-test.false
