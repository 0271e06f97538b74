use Rattle.std.proofs.Common.{◌≡◌, ℕ, Option, bytes_eq, subst}
use Rattle.std.specs.Prelude.{None, Some, ◌⊎◌}
use Rattle.indexmap.specs.IndexMap.{get}
use Rattle.prism_names.specs.First.{Name, first_some}
use Rattle.module_expand.specs.declared.fault.ExpandFault.TheVariants as fault
use Rattle.module_expand.specs.Refusals.{missing_source, renamed_twice, renamed_to_formula, place_of, LeavesOutNone, IsRefusedAtModules, IsOutOfMemory}
use Rattle.module_expand.proofs.DecideLemmas.{decided_by, always, in_list, at_twice, at_formula, modules_decided}
use Rattle.module_expand.proofs.expanding.accept_modules.Goals as goal

pub returns-in_err-refuse_renamed_twice-clause-decides : goal.returns-in_err-refuse_renamed_twice-clause-decides
returns-in_err-refuse_renamed_twice-clause-decides c =
    let m = c.args.model.now in
    let slice = c.as_slice-modules.ensures in
    let source : first_some (missing_source m.modules) m.modules ≡ None =
    subst (λ ms. first_some (missing_source ms) ms ≡ None) slice c.in_ok-refuse_missing_source.ensures in
    let left : LeavesOutNone m.modules = subst LeavesOutNone slice c.in_ok-refuse_left_out.ensures in
    let f = c.in_err-refuse_renamed_twice.field-0.0 in
    decided_by (IsRefusedAtModules m) c.from_residual-in_err-refuse_renamed_twice.result f
    c.from_residual-in_err-refuse_renamed_twice.ensures.1
    (at_twice m f source left (in_list (first_some renamed_twice) fault.RenameTwice f c.as_slice-modules.result.now
    m.modules slice c.in_err-refuse_renamed_twice.ensures))

pub returns-in_err-refuse_renamed_to_formula-clause-decides :
    goal.returns-in_err-refuse_renamed_to_formula-clause-decides
returns-in_err-refuse_renamed_to_formula-clause-decides c =
    let m = c.args.model.now in
    let places = get bytes_eq c.args.places.now in
    let slice = c.as_slice-modules.ensures in
    let source : first_some (missing_source m.modules) m.modules ≡ None =
    subst (λ ms. first_some (missing_source ms) ms ≡ None) slice c.in_ok-refuse_missing_source.ensures in
    let left : LeavesOutNone m.modules = subst LeavesOutNone slice c.in_ok-refuse_left_out.ensures in
    let twice : first_some renamed_twice m.modules ≡ None = subst (λ ms. first_some renamed_twice ms ≡ None)
    slice c.in_ok-refuse_renamed_twice.ensures in
    let same : places ≡ place_of m.formulas = λ i n. c.requires.places n i in
    let f = c.in_err-refuse_renamed_to_formula.field-0.0 in
    decided_by (IsRefusedAtModules m) c.from_residual-in_err-refuse_renamed_to_formula.result f
    c.from_residual-in_err-refuse_renamed_to_formula.ensures.1
    (at_formula m f source left twice (in_list (first_some (renamed_to_formula (place_of m.formulas)))
    fault.RenameToFormula f c.as_slice-modules.result.now m.modules slice
    (subst (λ (place : Name → Option ℕ). IsOutOfMemory f
    ⊎ ((n : Name) × (first_some (renamed_to_formula place) c.as_slice-modules.result.now ≡ Some n)
    × (f ≡ fault.RenameToFormula n)))
    same c.in_err-refuse_renamed_to_formula.ensures)))

pub returns-clause-decides : goal.returns-clause-decides
returns-clause-decides c =
    let m = c.args.model.now in
    let places = get bytes_eq c.args.places.now in
    let slice = c.as_slice-modules.ensures in
    let source : first_some (missing_source m.modules) m.modules ≡ None =
    subst (λ ms. first_some (missing_source ms) ms ≡ None) slice c.in_ok-refuse_missing_source.ensures in
    let left : LeavesOutNone m.modules = subst LeavesOutNone slice c.in_ok-refuse_left_out.ensures in
    let twice : first_some renamed_twice m.modules ≡ None = subst (λ ms. first_some renamed_twice ms ≡ None)
    slice c.in_ok-refuse_renamed_twice.ensures in
    let same : places ≡ place_of m.formulas = λ i n. c.requires.places n i in
    let formula : first_some (renamed_to_formula (place_of m.formulas)) m.modules ≡ None =
    subst (λ place. first_some (renamed_to_formula place) m.modules ≡ None) same
    (subst (λ ms. first_some (renamed_to_formula places) ms ≡ None)
    slice c.in_ok-refuse_renamed_to_formula.ensures) in
    modules_decided m (record { source = source; left = left; twice = twice; formula = formula })
    c.refuse_size.result c.refuse_size.ensures

pub returns-clause-kept : goal.returns-clause-kept
returns-clause-kept c = always c.refuse_size.result (LeavesOutNone c.args.model.now.modules)
    (subst LeavesOutNone c.as_slice-modules.ensures c.in_ok-refuse_left_out.ensures)
