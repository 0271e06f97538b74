-- What is held of the options that a parse has passed.
use Rattle.std.proofs.Common.{◌≡◌, ◌&&◌, ◌||◌, true, false, List, [], ◌∷◌, ◌++◌, Some, None, refl, ap, sym, ◌∙◌, map, if◌then◌else◌, append-nil}
use Rattle.std.specs.Str.{bytes_eq}
use Rattle.clap.specs.Walk.{Held, nothing_held, Row, at_row, without, with_values, has_row, used, settled_rows, reading_by, more_values}
use Rattle.clap.specs.Faults.{use_fault, settle_fault}
use Rattle.clap.specs.declared.parser.matches.ValueSource.TheVariants.{CommandLine}
use Rattle.std.proofs.lemmas.List.{map-append}
use Rattle.clap.specs.Kinds.{or_else}
use Rattle.clap.specs.declared.error.kind.ErrorKind.TheVariants as kind
use Rattle.smc_settings.specs.Options.{Text, is_known, is_given}
use Rattle.smc_settings.specs.Parse.{rules_in}
use Rattle.smc_settings.proofs.NameLemmas.{known, found_id}
use Rattle.smc_settings.proofs.StepLemmas.{held_after_one, held_after_two}

-- what was found for an option
abbrev pub row : Text × Text → Row
row g = record { id = g.0; values = g.1 ∷ []; count = None; source = Some CommandLine; reading = reading_by (known g.0) }

abbrev pub rows : List (Text × Text) → List Row
rows given = map row given

-- the rows of options that were given
pub row_found : (name : Text) (given : List (Text × Text)) → has_row name (rows given) ≡ is_given name given
row_found name [] = refl
row_found name (g ∷ given) = ap (λ b. bytes_eq g.0 name || b) (row_found name given)

-- an option that is new comes last
pub at_row-new : (name : Text) (change : Row → List Row) (missing : List Row) (before : List (Text × Text)) → is_given name before ≡ false → at_row name change missing (rows before) ≡ rows before ++ missing
at_row-new name change missing [] e = refl
at_row-new name change missing (g ∷ before) e = elim (bytes_eq g.0 name) as (λ b. (b || is_given name before) ≡ false → (if b then change (row g) ++ rows before else row g ∷ at_row name change missing (rows before)) ≡ row g ∷ (rows before ++ missing)) [
  | true ↦ λ f. cc
  | false ↦ λ f. ap (λ rs. row g ∷ rs) (at_row-new name change missing before f)
] e

pub used-new : (name value : Text) (before : List (Text × Text)) → is_given name before ≡ false → used (known name) (value ∷ []) (rows before) ≡ rows (before ++ (name, value) ∷ [])
used-new name value before e =
    let how = reading_by (known name) in
    let rest : without name (rows before) ≡ rows before = at_row-new name (λ _. []) [] before e ∙ append-nil (rows before) in
    ap (with_values name how CommandLine (value ∷ [])) rest
    ∙ (at_row-new name (more_values CommandLine (value ∷ [])) (row (name, value) ∷ []) before e ∙ sym (map-append row before ((name, value) ∷ [])))

-- what is known of what is held between two options
pub record Reads (table : List Text) (before : List (Text × Text)) (h : Held) : Type 0 where
  pub settled : settled_rows (rules_in table) h.pending h.rows ≡ rows before
  pub passes : settle_fault (rules_in table) false h ≡ []

-- a new option passes
pub use-new : (name value : Text) (before : List (Text × Text)) → is_given name before ≡ false → use_fault false (known name) (value ∷ []) (rows before) ≡ []
use-new name value before e = ap (λ b. or_else (if b && true then kind.ArgumentConflict ∷ [] else []) []) (row_found name before ∙ e)

pub use-given : (name value : Text) (before : List (Text × Text)) → is_given name before ≡ true → use_fault false (known name) (value ∷ []) (rows before) ≡ kind.ArgumentConflict ∷ []
use-given name value before e = ap (λ b. or_else (if b && true then kind.ArgumentConflict ∷ [] else []) []) (row_found name before ∙ e)

pub reads_one : (table : List Text) (name value : Text) (before : List (Text × Text)) (h : Held) → Reads table before h → is_given name before ≡ false → Reads table (before ++ (name, value) ∷ []) (held_after_one table name value h)
reads_one table name value before h r e = record { settled = rw r.settled (used-new name value before e); passes = refl }

pub reads_two : (table : List Text) (name value : Text) (before : List (Text × Text)) (h : Held) → Reads table before h → is_known table name ≡ true → is_given name before ≡ false → Reads table (before ++ (name, value) ∷ []) (held_after_two table name value h)
reads_two table name value before h r is e = record {
  settled = rw (found_id table name is, r.settled) (used-new name value before e);
  passes = rw (found_id table name is, r.settled) (use-new name value before e);
}

-- nothing is held before the first word
pub reads_nothing : (table : List Text) → Reads table [] nothing_held
reads_nothing table = record { settled = refl; passes = refl }
