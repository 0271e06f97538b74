use Rattle.std.proofs.Common.{◌≡◌, ℕ, Option, refl, bytes_eq, map, sym, ap, ◌∙◌}
use Rattle.indexmap.specs.IndexMap.{get}
use Rattle.prism_syntax.specs.declared.commands.Command.{Command}
use Rattle.prism_syntax.specs.declared.models.Variable.{Variable}
use Rattle.typecheck.specs.declared.fault.TypeFault.TheVariants as fault
use Rattle.typecheck.specs.Declarations.{declared_variables, declared_commands}
use Rattle.typecheck.specs.Writes.{owner_in}
use Rattle.std.proofs.lemmas.Result.{err_from_is_err_and}
use Rattle.typecheck.proofs.DeclaredLemmas.{map-map}
use Rattle.typecheck.proofs.ModelLemmas.{sorts-told-or, unknown-none, unfit-none, at-sorts, at-numbers, at-writes, at-limits, nothing-told, numbers-same, fault-same, empty-same, outside-same, writes-same, foreign-same, global-same, double-same, large-same}
use Rattle.typecheck.proofs.checks.refuse.Goals as goal

pub returns-in_err-refuse_sorts-clause-refused : goal.returns-in_err-refuse_sorts-clause-refused
returns-in_err-refuse_sorts-clause-refused c =
    let flat = c.args.flat.now in
    let consts = c.args.scope.now.consts.now in
    let told = at-sorts flat consts c.in_err-refuse_sorts.field-0.0
    (sorts-told-or flat consts c.args.constants.now c.args.scope.now c.requires.constants c.requires.scope (λ _. ⊥) c.in_err-refuse_sorts.field-0.0 c.in_err-refuse_sorts.ensures.told) in
    let exit = err_from_is_err_and c.from_residual.result c.from_residual.ensures.1 in
    rw (exit.1, exit.2) told

pub returns-in_err-refuse_numbers-clause-refused : goal.returns-in_err-refuse_numbers-clause-refused
returns-in_err-refuse_numbers-clause-refused c =
    let flat = c.args.flat.now in
    let consts = c.args.scope.now.consts.now in
    let vars : map (λ v. v.1.now) c.args.variables.now ≡ map (λ v. v.1) (declared_variables flat) =
    sym (map-map (λ (v : Option ℕ × Variable). v.1) (λ v. (v.0, v.1.now)) c.args.variables.now) ∙ ap (map (λ v. v.1)) c.requires.variables in
    let told = at-numbers flat consts c.in_err-refuse_numbers.field-0.0
    (unknown-none flat consts c.args.constants.now c.args.scope.now c.requires.constants c.requires.scope c.in_ok-refuse_sorts.ensures.known)
    (unfit-none flat consts c.args.constants.now c.args.scope.now c.requires.constants c.requires.scope c.in_ok-refuse_sorts.ensures.fit)
    (numbers-same flat consts (map (λ v. v.1.now) c.args.variables.now) vars (λ _. ⊥) c.in_err-refuse_numbers.field-0.0 c.in_err-refuse_numbers.ensures.told) in
    let exit = err_from_is_err_and c.from_residual-in_err-refuse_numbers.result c.from_residual-in_err-refuse_numbers.ensures.1 in
    rw (exit.1, exit.2) told

pub returns-in_err-refuse_writes-clause-refused : goal.returns-in_err-refuse_writes-clause-refused
returns-in_err-refuse_writes-clause-refused c =
    let flat = c.args.flat.now in
    let consts = c.args.scope.now.consts.now in
    let vars : map (λ v. v.1.now) c.args.variables.now ≡ map (λ v. v.1) (declared_variables flat) =
    sym (map-map (λ (v : Option ℕ × Variable). v.1) (λ v. (v.0, v.1.now)) c.args.variables.now) ∙ ap (map (λ v. v.1)) c.requires.variables in
    let commands : map (λ d. d.1.now) c.args.commands.now ≡ map (λ d. d.1) (declared_commands flat) =
    sym (map-map (λ (d : ℕ × Command). d.1) (λ d. (d.0, d.1.now)) c.args.commands.now) ∙ ap (map (λ d. d.1)) c.requires.commands in
    let owners : get bytes_eq c.args.owners.now ≡ owner_in (declared_variables flat) = λ i name. c.requires.owners name i in
    let told = at-writes flat consts c.in_err-refuse_writes.field-0.0
    (unknown-none flat consts c.args.constants.now c.args.scope.now c.requires.constants c.requires.scope c.in_ok-refuse_sorts.ensures.known)
    (unfit-none flat consts c.args.constants.now c.args.scope.now c.requires.constants c.requires.scope c.in_ok-refuse_sorts.ensures.fit)
    (fault-same flat consts (map (λ v. v.1.now) c.args.variables.now) vars c.in_ok-refuse_numbers.ensures.valued)
    (empty-same flat consts (map (λ v. v.1.now) c.args.variables.now) vars c.in_ok-refuse_numbers.ensures.ranged)
    (outside-same flat consts (map (λ v. v.1.now) c.args.variables.now) vars c.in_ok-refuse_numbers.ensures.within)
    (writes-same flat (get bytes_eq c.args.owners.now) (map {B = ℕ × Command} (λ d. (d.0, d.1.now)) c.args.commands.now) (map (λ d. d.1.now) c.args.commands.now)
    owners c.requires.commands commands (λ _. ⊥) c.in_err-refuse_writes.field-0.0 c.in_err-refuse_writes.ensures.told) in
    let exit = err_from_is_err_and c.from_residual-in_err-refuse_writes.result c.from_residual-in_err-refuse_writes.ensures.1 in
    rw (exit.1, exit.2) told

pub returns-then-are_too_many-clause-refused : goal.returns-then-are_too_many-clause-refused
returns-then-are_too_many-clause-refused c =
    let flat = c.args.flat.now in
    let consts = c.args.scope.now.consts.now in
    let vars : map (λ v. v.1.now) c.args.variables.now ≡ map (λ v. v.1) (declared_variables flat) =
    sym (map-map (λ (v : Option ℕ × Variable). v.1) (λ v. (v.0, v.1.now)) c.args.variables.now) ∙ ap (map (λ v. v.1)) c.requires.variables in
    let commands : map (λ d. d.1.now) c.args.commands.now ≡ map (λ d. d.1) (declared_commands flat) =
    sym (map-map (λ (d : ℕ × Command). d.1) (λ d. (d.0, d.1.now)) c.args.commands.now) ∙ ap (map (λ d. d.1)) c.requires.commands in
    let owners : get bytes_eq c.args.owners.now ≡ owner_in (declared_variables flat) = λ i name. c.requires.owners name i in
    at-limits flat consts fault.TooLarge
    (unknown-none flat consts c.args.constants.now c.args.scope.now c.requires.constants c.requires.scope c.in_ok-refuse_sorts.ensures.known)
    (unfit-none flat consts c.args.constants.now c.args.scope.now c.requires.constants c.requires.scope c.in_ok-refuse_sorts.ensures.fit)
    (fault-same flat consts (map (λ v. v.1.now) c.args.variables.now) vars c.in_ok-refuse_numbers.ensures.valued)
    (empty-same flat consts (map (λ v. v.1.now) c.args.variables.now) vars c.in_ok-refuse_numbers.ensures.ranged)
    (outside-same flat consts (map (λ v. v.1.now) c.args.variables.now) vars c.in_ok-refuse_numbers.ensures.within)
    (foreign-same flat (get bytes_eq c.args.owners.now) (map {B = ℕ × Command} (λ d. (d.0, d.1.now)) c.args.commands.now) owners c.requires.commands c.in_ok-refuse_writes.ensures.own)
    (global-same flat (get bytes_eq c.args.owners.now) (map (λ d. d.1.now) c.args.commands.now) owners commands c.in_ok-refuse_writes.ensures.unwritten)
    (double-same flat (map (λ d. d.1.now) c.args.commands.now) commands c.in_ok-refuse_writes.ensures.once)
    (refl, sym (large-same flat c.len.result c.args.variables.now c.args.commands.now c.len.ensures c.requires.variables c.requires.commands) ∙ (sym c.are_too_many.ensures ∙ c.if-are_too_many.true))

pub returns-else-are_too_many-clause-accepted : goal.returns-else-are_too_many-clause-accepted
returns-else-are_too_many-clause-accepted c = λ f.
    let flat = c.args.flat.now in
    let consts = c.args.scope.now.consts.now in
    let vars : map (λ v. v.1.now) c.args.variables.now ≡ map (λ v. v.1) (declared_variables flat) =
    sym (map-map (λ (v : Option ℕ × Variable). v.1) (λ v. (v.0, v.1.now)) c.args.variables.now) ∙ ap (map (λ v. v.1)) c.requires.variables in
    let commands : map (λ d. d.1.now) c.args.commands.now ≡ map (λ d. d.1) (declared_commands flat) =
    sym (map-map (λ (d : ℕ × Command). d.1) (λ d. (d.0, d.1.now)) c.args.commands.now) ∙ ap (map (λ d. d.1)) c.requires.commands in
    let owners : get bytes_eq c.args.owners.now ≡ owner_in (declared_variables flat) = λ i name. c.requires.owners name i in
    nothing-told flat consts f
    (unknown-none flat consts c.args.constants.now c.args.scope.now c.requires.constants c.requires.scope c.in_ok-refuse_sorts.ensures.known)
    (unfit-none flat consts c.args.constants.now c.args.scope.now c.requires.constants c.requires.scope c.in_ok-refuse_sorts.ensures.fit)
    (fault-same flat consts (map (λ v. v.1.now) c.args.variables.now) vars c.in_ok-refuse_numbers.ensures.valued)
    (empty-same flat consts (map (λ v. v.1.now) c.args.variables.now) vars c.in_ok-refuse_numbers.ensures.ranged)
    (outside-same flat consts (map (λ v. v.1.now) c.args.variables.now) vars c.in_ok-refuse_numbers.ensures.within)
    (foreign-same flat (get bytes_eq c.args.owners.now) (map {B = ℕ × Command} (λ d. (d.0, d.1.now)) c.args.commands.now) owners c.requires.commands c.in_ok-refuse_writes.ensures.own)
    (global-same flat (get bytes_eq c.args.owners.now) (map (λ d. d.1.now) c.args.commands.now) owners commands c.in_ok-refuse_writes.ensures.unwritten)
    (double-same flat (map (λ d. d.1.now) c.args.commands.now) commands c.in_ok-refuse_writes.ensures.once)
    (sym (large-same flat c.len.result c.args.variables.now c.args.commands.now c.len.ensures c.requires.variables c.requires.commands) ∙ (sym c.are_too_many.ensures ∙ c.if-are_too_many.false))
