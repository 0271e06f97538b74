use Rattle.std.proofs.Common.{◌≡◌, ℕ, List, Option, is_some, sym, ap, ◌∙◌}
use Rattle.std.specs.Prelude.{None, Some, position, if◌then◌else◌}
use Rattle.prism_syntax.specs.declared.models.Module.{Module}
use Rattle.prism_syntax.specs.declared.models.Module.TheVariants.{Renamed}
use Rattle.prism_names.specs.First.{Name}
use Rattle.module_expand.specs.Flat.{is_written_as}
use Rattle.module_expand.specs.Refusals.{missing_source}
use Rattle.module_expand.proofs.modules.find_missing_source.Goals as goal

missing : (modules : List Module) (item : Module) (title source : Name) (pairs : List (Name × Name))
    (place : Option ℕ) → item ≡ Renamed title source pairs
    → position (is_written_as source) modules ≡ place → missing_source modules item
    ≡ (if is_some place then None else Some source)
missing modules item title source pairs place is found = ap (missing_source modules) is
    ∙ ap (λ o. if is_some o then None else Some source) found

pub returns-in-Some : goal.returns-in-Some
returns-in-Some c = λ modules are. sym (missing modules c.args.item.now c.in-Renamed.name c.in-Renamed.source
    c.in-Renamed.pairs (Some c.in-Some.field-0.now)
    c.in-Renamed.is (sym (are c.in-Renamed.source) ∙ sym c.in-Some.ensures.value))

pub returns-in-None : goal.returns-in-None
returns-in-None c = λ modules are. sym (missing modules c.args.item.now c.in-Renamed.name c.in-Renamed.source
    c.in-Renamed.pairs None
    c.in-Renamed.is (sym (are c.in-Renamed.source) ∙ sym c.in-None.ensures.value))
