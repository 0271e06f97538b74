-- How looks for one fault after another decide whether a model is refused.
use Rattle.std.proofs.Common.{◌≡◌, ℕ, Option, List, [], map, sym, get_or, MatchOption, subst, refl}
use Rattle.std.specs.Prelude.{None, Some, ◌⊎◌, Result, Ok, Err, IfOk, IfErr, MatchResult}
use Rattle.std.specs.Result.{IsErrAnd}
use Rattle.std.specs.declared.alloc.AllocError.{AllocError}
use mathlib.Core.Logic.{inl, inr}
use Rattle.prism_syntax.specs.declared.models.ModelText.{ModelText}
use Rattle.prism_syntax.specs.declared.models.Named.{Named}
use Rattle.prism_names.specs.First.{Name, first_some}
use Rattle.name_graph.specs.Graph.{IsFirstCycle, HasNoCycle}
use Rattle.module_expand.specs.declared.fault.ExpandFault.{ExpandFault}
use Rattle.module_expand.specs.declared.fault.ExpandFault.TheVariants as fault
use Rattle.module_expand.specs.Expanded.{AreExpanded}
use Rattle.module_expand.specs.Flat.{flat_of}
use Rattle.module_expand.specs.Listed.{IsTooLarge}
use Rattle.module_expand.specs.Duplicates.{duplicate_of}
use Rattle.module_expand.specs.Refusals.{Tells, TellsCycle, TellsLeftOut, TellsSize, IsRefusedAtModules, IsRefused, IsOutOfMemory, Decides, uses_of, place_of, missing_source, IsFirstLeftOut, LeavesOutNone, renamed_twice, renamed_to_formula}
use Rattle.module_expand.proofs.MappedLemmas.{fault_mapped}

-- memory ran out, or the fault is told
abbrev pub Or : (ExpandFault → Type 0) → ExpandFault → Type 0
Or refused f = IsOutOfMemory f ⊎ refused f

later_told : (wrong : Option Name) (variant : Name → ExpandFault) (later : ExpandFault → Type 0) (f : ExpandFault)
    → wrong ≡ None → Or later f → Or (Tells wrong variant later) f
later_told wrong variant later f none (inl memory) = inl memory
later_told wrong variant later f none (inr h) = inr (subst (λ o. MatchOption o (later f) (λ n. f ≡ variant n))
    (sym none) h)

here_told : (wrong : Option Name) (variant : Name → ExpandFault) (later : ExpandFault → Type 0) (f : ExpandFault)
    → (IsOutOfMemory f ⊎ ((n : Name) × (wrong ≡ Some n) × (f ≡ variant n))) → Or (Tells wrong variant later) f
here_told wrong variant later f (inl memory) = inl memory
here_told wrong variant later f (inr h) = inr (subst (λ o. MatchOption o (later f) (λ n. f ≡ variant n)) (sym h.1) h.2)

passes : (wrong : Option Name) (variant : Name → ExpandFault) (later : ExpandFault → Type 0) → wrong ≡ None
    → ((f : ExpandFault) → ¬ later f) → (f : ExpandFault) → ¬ Tells wrong variant later f
passes wrong variant later none rest f h = rest f (subst (λ o. MatchOption o (later f) (λ n. f ≡ variant n)) none h)

-- what was found so far: nothing wrong
pub record Passed (m : ModelText) : Type 0 where
  pub duplicate : duplicate_of m ≡ None
  pub cycle : HasNoCycle (uses_of m.formulas)

pub record PassedModules (m : ModelText) : Type 0 where
  pub source : first_some (missing_source m.modules) m.modules ≡ None
  pub left : LeavesOutNone m.modules
  pub twice : first_some renamed_twice m.modules ≡ None
  pub formula : first_some (renamed_to_formula (place_of m.formulas)) m.modules ≡ None

abbrev AtFormula : ModelText → ExpandFault → Type 0
AtFormula m = Tells (first_some (renamed_to_formula (place_of m.formulas)) m.modules) fault.RenameToFormula
    (TellsSize m)

abbrev AtTwice : ModelText → ExpandFault → Type 0
AtTwice m = Tells (first_some renamed_twice m.modules) fault.RenameTwice (AtFormula m)

pub at_duplicate : (m : ModelText) (f : ExpandFault) → (IsOutOfMemory f ⊎ ((n : Name) × (duplicate_of m ≡ Some n)
    × (f ≡ fault.Duplicate n))) → Or (IsRefused m) f
at_duplicate m f h = here_told (duplicate_of m) fault.Duplicate (TellsCycle m.formulas (IsRefusedAtModules m)) f h

pub at_cycle : (m : ModelText) (f : ExpandFault) → duplicate_of m ≡ None
    → (IsOutOfMemory f ⊎ ((i : ℕ) × IsFirstCycle (uses_of m.formulas) i
    × (f ≡ fault.FormulaCycle (get_or (map (λ g. g.name) m.formulas) i [])))) → Or (IsRefused m) f
at_cycle m f none (inl memory) = inl memory
at_cycle m f none (inr h) = later_told (duplicate_of m) fault.Duplicate
    (TellsCycle m.formulas (IsRefusedAtModules m)) f none (inr (inl h))

pub at_modules : (m : ModelText) (f : ExpandFault) → Passed m → Or (IsRefusedAtModules m) f → Or (IsRefused m) f
at_modules m f passed (inl memory) = inl memory
at_modules m f passed (inr h) = later_told (duplicate_of m) fault.Duplicate
    (TellsCycle m.formulas (IsRefusedAtModules m)) f passed.duplicate (inr (inr (passed.cycle, h)))

pub at_source : (m : ModelText) (f : ExpandFault)
    → (IsOutOfMemory f ⊎ ((n : Name) × (first_some (missing_source m.modules) m.modules ≡ Some n)
    × (f ≡ fault.NoSuchModule n))) → Or (IsRefusedAtModules m) f
at_source m f h = here_told _ fault.NoSuchModule (TellsLeftOut m.modules (AtTwice m)) f h

pub at_left_out : (m : ModelText) (f : ExpandFault) → first_some (missing_source m.modules) m.modules ≡ None
    → (IsOutOfMemory f ⊎ ((n : Name) × IsFirstLeftOut m.modules n × (f ≡ fault.RenameLeavesVariable n)))
    → Or (IsRefusedAtModules m) f
at_left_out m f none (inl memory) = inl memory
at_left_out m f none (inr h) = later_told _ fault.NoSuchModule (TellsLeftOut m.modules (AtTwice m)) f none (inr (inl h))

after_left_out : (m : ModelText) (f : ExpandFault) → first_some (missing_source m.modules) m.modules ≡ None
    → LeavesOutNone m.modules
    → Or (AtTwice m) f → Or (IsRefusedAtModules m) f
after_left_out m f none left (inl memory) = inl memory
after_left_out m f none left (inr h) = later_told _ fault.NoSuchModule (TellsLeftOut m.modules (AtTwice m)) f none
    (inr (inr (left, h)))

pub at_twice : (m : ModelText) (f : ExpandFault) → first_some (missing_source m.modules) m.modules ≡ None
    → LeavesOutNone m.modules
    → (IsOutOfMemory f ⊎ ((n : Name) × (first_some renamed_twice m.modules ≡ Some n) × (f ≡ fault.RenameTwice n)))
    → Or (IsRefusedAtModules m) f
at_twice m f none left h = after_left_out m f none left (here_told (first_some renamed_twice m.modules)
    fault.RenameTwice (AtFormula m) f h)

pub at_formula : (m : ModelText) (f : ExpandFault) → first_some (missing_source m.modules) m.modules ≡ None
    → LeavesOutNone m.modules → first_some renamed_twice m.modules ≡ None
    → (IsOutOfMemory f ⊎ ((n : Name) × (first_some (renamed_to_formula (place_of m.formulas)) m.modules ≡ Some n)
    × (f ≡ fault.RenameToFormula n))) → Or (IsRefusedAtModules m) f
at_formula m f none left twice h = after_left_out m f none left (later_told (first_some renamed_twice m.modules)
    fault.RenameTwice (AtFormula m) f twice
    (here_told (first_some (renamed_to_formula (place_of m.formulas)) m.modules) fault.RenameToFormula (TellsSize m)
    f h))

-- all renamings are right: what is left is the size of the flat text
pub modules_decided : {T : Type 0} (m : ModelText) → PassedModules m → (r : Result T ExpandFault)
    → Decides (TellsSize m) r → Decides (IsRefusedAtModules m) r
modules_decided m passed (Ok done) size = passes (first_some (missing_source m.modules) m.modules) fault.NoSuchModule
    (TellsLeftOut m.modules (AtTwice m)) passed.source left
  where
    left : (f : ExpandFault) → ¬ TellsLeftOut m.modules (AtTwice m) f
    left f (inl h) = passed.left h.1.i h.1.j h.0 h.1.left
    left f (inr h) = passes (first_some renamed_twice m.modules) fault.RenameTwice (AtFormula m)
        passed.twice (passes (first_some (renamed_to_formula (place_of m.formulas)) m.modules) fault.RenameToFormula
        (TellsSize m) passed.formula size) f h.1
modules_decided m passed (Err f) (inl memory) = inl memory
modules_decided m passed (Err f) (inr size) = after_left_out m f passed.source passed.left
    (later_told (first_some renamed_twice m.modules) fault.RenameTwice (AtFormula m)
    f passed.twice (later_told (first_some (renamed_to_formula (place_of m.formulas)) m.modules)
    fault.RenameToFormula (TellsSize m) f passed.formula (inr size)))

-- all declarations and formulas are right, and nothing refuses the modules
pub none_refused : (m : ModelText) → Passed m → ((f : ExpandFault) → ¬ IsRefusedAtModules m f) → (f : ExpandFault)
    → ¬ IsRefused m f
none_refused m passed rest = passes (duplicate_of m) fault.Duplicate (TellsCycle m.formulas (IsRefusedAtModules m))
    passed.duplicate no_cycle
  where
    no_cycle : (f : ExpandFault) → ¬ TellsCycle m.formulas (IsRefusedAtModules m) f
    no_cycle f (inl h) = passed.cycle h.0 h.1.cycle
    no_cycle f (inr h) = rest f h.1

-- the flat text is past the limits
pub size_told : (m : ModelText) (trees : List Named) → AreExpanded m.formulas trees → IsTooLarge (flat_of m trees)
    → TellsSize m fault.TooLarge
size_told m trees expanded large = (refl, (flat_of m trees, record { formulas = expanded; rest = refl }, large))

-- no flat text is past the limits
pub size_untold : (m : ModelText) → ((trees : List Named) → AreExpanded m.formulas trees
    → IsTooLarge (flat_of m trees) → ⊥) → (f : ExpandFault) → ¬ TellsSize m f
size_untold m small f h = small h.1.0.formulas h.1.1.formulas (subst IsTooLarge h.1.1.rest h.1.2)

-- an answer that passes a fault on
pub decided_by : {T : Type 0} (refused : ExpandFault → Type 0) (r : Result T ExpandFault) (f : ExpandFault)
    → IsErrAnd r (λ e. e ≡ f) → Or refused f → Decides refused r
decided_by refused (Ok done) f is h = absurd is
decided_by refused (Err e) f is h = subst (λ g. Or refused g) (sym is) h

pub always : {T E : Type 0} (r : Result T E) (P : Type 0) → P → IfOk r (λ done. P)
always (Ok done) P h = h
always (Err e) P h = tt

-- the same of a list that is another
pub in_list : {X : Type 0} (told : List X → Option Name) (variant : Name → ExpandFault) (f : ExpandFault)
    (xs ys : List X) → xs ≡ ys
    → (IsOutOfMemory f ⊎ ((n : Name) × (told xs ≡ Some n) × (f ≡ variant n))) → IsOutOfMemory f
    ⊎ ((n : Name) × (told ys ≡ Some n) × (f ≡ variant n))
in_list told variant f xs ys same h = subst (λ zs. IsOutOfMemory f ⊎ ((n : Name) × (told zs ≡ Some n)
    × (f ≡ variant n))) same h

pub refused_by : {T : Type 0} (refused : ExpandFault → Type 0) (r : Result T ExpandFault) (f : ExpandFault)
    → IsErrAnd r (λ e. e ≡ f) → Or refused f
    → IfErr r (λ e. IsOutOfMemory e ⊎ refused e)
refused_by refused (Ok done) f is h = tt
refused_by refused (Err e) f is h = subst (λ g. Or refused g) (sym is) h

-- a call's want of memory is passed on
pub out_of_memory : {T : Type 0} (refused : ExpandFault → Type 0) (r : Result T AllocError)
    (s : Result T ExpandFault) (f : ExpandFault)
    → MatchResult r (λ y. s ≡ Ok y) (λ e. IsErrAnd s (λ g. g ≡ fault.OutOfMemory e)) → s ≡ Err f → Or refused f
out_of_memory refused r s f cases is = inl (fault_mapped r s f (λ e g. g ≡ fault.OutOfMemory e)
    IsOutOfMemory memory cases is)
  where
    memory : (e : AllocError) (g : ExpandFault) → g ≡ fault.OutOfMemory e → IsOutOfMemory g
    memory e g same = subst IsOutOfMemory (sym same) tt
