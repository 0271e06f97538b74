use Rattle.std.proofs.Common.{◌≡◌, ℕ, List, Option, All, map, refl, sym, ◌∙◌, subst, Some}
use Rattle.std.specs.Prelude.{IsSome}
use Rattle.prism_syntax.specs.declared.models.Variable.{Variable}
use Rattle.typed_trees.specs.Numbers.{constant_value}
use Rattle.typecheck.specs.declared.parts.Parts.{Parts}
use Rattle.typecheck.specs.Limits.{IsWithin}
use Rattle.typecheck.specs.Parts.{made_variable}
use Rattle.typecheck.proofs.MakingLemmas.{same-Some}
use Rattle.typecheck.proofs.ModelLemmas.{accepted}
use Rattle.typecheck.proofs.ChainOfLemmas.{whole, made, tables-give, parts-chain, chain-of-parts}
use Rattle.typecheck.proofs.checks.typed_chain.Goals as goal

pub unwrap-requires : goal.unwrap-requires
unwrap-requires c =
    let flat = c.args.flat.now in
    let consts = c.args.scope.now.consts.now in
    let ok = accepted flat consts c.requires.accepted in
    let within = subst (λ (vs : List (Option ℕ × Variable)). All IsWithin (map (made_variable (constant_value consts)) vs)) c.requires.variables c.in_ok-parts.ensures.within in
    let is : c.in_ok-parts.parts ≡ Some (whole flat consts ok within) =
    c.in_ok-parts.ensures.made ∙ (tables-give flat c.args.scope.now c.requires.scope c.args.variables.now c.args.commands.now c.requires.variables c.requires.commands
    ∙ made flat consts ok within) in
    subst (λ (o : Option Parts). IsSome o) (sym is) refl

pub chain_of-requires : goal.chain_of-requires
chain_of-requires c =
    let flat = c.args.flat.now in
    let consts = c.args.scope.now.consts.now in
    let ok = accepted flat consts c.requires.accepted in
    let within = subst (λ (vs : List (Option ℕ × Variable)). All IsWithin (map (made_variable (constant_value consts)) vs)) c.requires.variables c.in_ok-parts.ensures.within in
    let is : c.in_ok-parts.parts ≡ Some (whole flat consts ok within) =
    c.in_ok-parts.ensures.made ∙ (tables-give flat c.args.scope.now c.requires.scope c.args.variables.now c.args.commands.now c.requires.variables c.requires.commands
    ∙ made flat consts ok within) in
    parts-chain flat consts ok within c.unwrap.result (same-Some c.unwrap.result (whole flat consts ok within) (sym c.unwrap.ensures ∙ is))

pub returns : goal.returns
returns c =
    let flat = c.args.flat.now in
    let consts = c.args.scope.now.consts.now in
    let ok = accepted flat consts c.requires.accepted in
    let within = subst (λ (vs : List (Option ℕ × Variable)). All IsWithin (map (made_variable (constant_value consts)) vs)) c.requires.variables c.in_ok-parts.ensures.within in
    let is : c.in_ok-parts.parts ≡ Some (whole flat consts ok within) =
    c.in_ok-parts.ensures.made ∙ (tables-give flat c.args.scope.now c.requires.scope c.args.variables.now c.args.commands.now c.requires.variables c.requires.commands
    ∙ made flat consts ok within) in
    chain-of-parts flat consts ok within c.unwrap.result (same-Some c.unwrap.result (whole flat consts ok within) (sym c.unwrap.ensures ∙ is)) c.chain_of.result
    c.chain_of.ensures.vars c.chain_of.ensures.actions c.chain_of.ensures.modules c.chain_of.ensures.commands c.chain_of.ensures.labels
