-- What a parse makes of words that give options, each once.
use Rattle.std.proofs.Common.{◌≡◌, ◌&&◌, Bool, true, false, not, List, [], ◌∷◌, Some, refl, ap, ◌∙◌, if◌then◌else◌, fold, ◌⊎◌, inl, inr, slice_get, find, is_some}
use Rattle.std.specs.Option.{option_and_then}
use Rattle.std.specs.List.{list_any}
use Rattle.std.specs.Str.{bytes_eq}
use Rattle.std.proofs.Math.Bool.{or-true}
use Rattle.clap.specs.Walk.{nothing_held, settled, Row, Rule, Walk, has_row, settled_rows, walked, first_of, finished, with_default}
use Rattle.clap.specs.Simple.{App, entered, is_simple, matches_of, names_of}
use Rattle.clap.specs.Walk.{rows_after}
use Rattle.clap.specs.Faults.{built_fault, entered_fault, defaults_fault, check_fault, fault_of, settle_fault, is_simple_and_free}
use Rattle.clap.specs.Takes.{is_given as given_in}
use Rattle.clap.specs.Kinds.{check_kinds, or_else, Kinds, HasKind, IsAmong}
use Rattle.clap.specs.Words.{HasMatchesOf, first_value, found_of, kind_of}
use Rattle.clap.proofs.WalkLemmas.{first_value-rows}
use Rattle.clap.specs.declared.parser.matches.ArgMatches.{ArgMatches}
use Rattle.clap.specs.declared.error.Error.{Error}
use Rattle.clap.specs.declared.error.kind.ErrorKind.{ErrorKind}
use Rattle.clap.specs.declared.error.kind.ErrorKind.TheVariants as kind
use Rattle.smc_settings.specs.Options.{Text, Gives, are_distinct, value_in}
use Rattle.smc_settings.specs.Parse.{command_app, rules_in, shape_with, IsTable}
use Rattle.smc_settings.proofs.NameLemmas.{both}
use Rattle.smc_settings.proofs.StepLemmas.{at}
use Rattle.smc_settings.proofs.RowLemmas.{row, rows}
use Rattle.smc_settings.proofs.WalkLemmas.{whole_walk}

-- no option has a default
same_if : {X : Type 0} (b : Bool) (x : X) → (if b then x else x) ≡ x
same_if true x = refl
same_if false x = refl

no_default : (table : List Text) (found : List Row) → fold with_default found (rules_in table) ≡ found
no_default [] found = refl
no_default (name ∷ table) found = ap (λ rs. fold with_default rs (rules_in table)) (same_if (has_row name found) found) ∙ no_default table found

no_default_fault : (table : List Text) (found : List Row) → defaults_fault found (rules_in table) ≡ []
unfolding defaults_fault
no_default_fault [] found = refl
no_default_fault (name ∷ table) found = rw (or-true (has_row name found), same_if (has_row name found) found) (no_default_fault table found)

-- the value of an option is that of its row
pub first-rows : (name : Text) (given : List (Text × Text)) → first_of name (rows given) ≡ value_in given name
first-rows name [] = refl
first-rows name (g ∷ given) = elim (bytes_eq g.0 name) as (λ b. option_and_then (λ (r : Row). slice_get r.values 0) (if b then Some (row g) else find (λ (r : Row). bytes_eq r.id name) (rows given)) ≡ (if b then Some g.1 else value_in given name)) [
  | true ↦ refl
  | false ↦ first-rows name given
]

-- a command that is simple and free is simple
simple : (table : List Text) → IsTable table → is_simple (command_app table) ≡ true
simple table is = (both (is_simple (command_app table)) _ is.free).0

-- the matches of words that give options are their rows
pub all_rows : (table words : List Text) (given : List (Text × Text)) → IsTable table → Gives table words given → are_distinct given ≡ true → matches_of (command_app table) words ≡ rows given
all_rows table words given is gives new =
    let w = whole_walk table words given is gives new in
    ap (λ (a : App). rows_after a.top.rules (names_of a) words) is.builds
    ∙ (ap (λ (u : Walk). finished (rules_in table) u.held) w.walk ∙ (no_default table _ ∙ w.reads.settled))

-- the command that was built
abbrev pub built_with : List Text → App
built_with table = record { top = shape_with table; subs = [] }

-- no option is required
none_required : (q : Rule → Bool) (table : List Text) → list_any (λ (a : Rule). a.required && q a) (rules_in table) ≡ false
none_required q [] = refl
none_required q (name ∷ table) = none_required q table

-- the fault at the end of a walk that had none
abbrev level_at : List Text → Kinds → Walk → Kinds
level_at table before w =
    or_else before (or_else (entered_fault (built_with table) w.stopped) (or_else (settle_fault (rules_in table) false w.held)
    (or_else (defaults_fault (settled (rules_in table) w.held).rows (rules_in table)) (check_fault (shape_with table) (finished (rules_in table) w.held) (is_some (entered (built_with table) w.stopped))))))

-- the faults of words are those of the command that was built
pub fault_built : (table words : List Text) → IsTable table → fault_of (command_app table) words ≡ built_fault (built_with table) nothing_held words
fault_built table words is = ap (λ a. built_fault a nothing_held words) is.builds

pub no_fault : (table words : List Text) (given : List (Text × Text)) → IsTable table → Gives table words given → are_distinct given ≡ true → fault_of (command_app table) words ≡ []
no_fault table words given is gives new =
    let w = whole_walk table words given is gives new in
    fault_built table words is
    ∙ (ap (λ ks. level_at table ks (fold (walked (rules_in table) []) (at nothing_held) words)) w.passes
    ∙ (ap (level_at table []) w.walk ∙ rw (w.reads.passes, no_default_fault table (settled_rows (rules_in table) w.end.pending w.end.rows))
    (ap (λ b. check_kinds false false b) (none_required (λ a. not (given_in a.id (finished (rules_in table) w.end))) table))))

-- what a parse found for an option is its value
pub found_value : (table : List Text) (app : App) (words : List Text) (m : ArgMatches) (given : List (Text × Text)) (name : Text) → IsTable table → app ≡ command_app table → HasMatchesOf app words m → Gives table words given → are_distinct given ≡ true
    → first_value (found_of m) name ≡ value_in given name
found_value table app words m given name is same has gives new =
    first_value-rows (found_of m) name
    ∙ (ap (first_of name) ((has (ap is_simple same ∙ simple table is)).0 ∙ (ap (λ a. matches_of a words) same ∙ all_rows table words given is gives new)) ∙ first-rows name given)

-- an error is for want of memory
no_kind : (k : ErrorKind) (kinds : Kinds) → kinds ≡ [] → (k ≡ kind.OutOfMemory) ⊎ IsAmong k kinds → k ≡ kind.OutOfMemory
no_kind k [] none (inl e) = e
no_kind k [] none (inr e) = absurd e
no_kind k (other ∷ kinds) none e = cc

pub error_kind : (table : List Text) (app : App) (words : List Text) (e : Error) (given : List (Text × Text)) → IsTable table → app ≡ command_app table → HasKind (fault_of app words) e → Gives table words given → are_distinct given ≡ true → kind_of e ≡ kind.OutOfMemory
error_kind table app words e given is same has gives new = no_kind (kind_of e) (fault_of app words) (ap (λ a. fault_of a words) same ∙ no_fault table words given is gives new) has

pub is_free : (table : List Text) (app : App) → IsTable table → app ≡ command_app table → is_simple_and_free app ≡ true
is_free table app is same = ap is_simple_and_free same ∙ is.free
