-- Where a parse has no fault, no option stands twice.
use Rattle.std.proofs.Common.{◌≡◌, true, false, List, [], ◌∷◌, ◌++◌, Some, refl, ap, sym, ◌∙◌, subst, fold}
use Rattle.std.specs.List.{list_all}
use Rattle.clap.specs.Walk.{Held, nothing_held, Walk, used, settled_rows, walked}
use Rattle.clap.specs.Simple.{App}
use Rattle.clap.specs.Faults.{built_fault, entered_fault, use_fault, react_fault, fault_of, walk_fault, settle_fault, turn_fault}
use Rattle.clap.specs.Kinds.{or_else, Kinds}
use Rattle.smc_settings.specs.Options.{Text, Gives, nothing, one_word, two_words, is_given, are_new, are_distinct}
use Rattle.smc_settings.specs.Parse.{command_app, is_name, rules_in, shape_with, IsTable}
use Rattle.smc_settings.proofs.NameLemmas.{known, found_id, known_name, no_hyphen}
use Rattle.smc_settings.proofs.StepLemmas.{at, held_after_one, held_after_two, walked_one, waits_for, walked_name, walked_plain}
use Rattle.smc_settings.proofs.RowLemmas.{rows, used-new, use-given}
use Rattle.smc_settings.proofs.TurnLemmas.{turn_one_is, turn_name_is}
use Rattle.smc_settings.proofs.MatchLemmas.{built_with, fault_built}

-- where there is no fault, no name stands twice
or_else_nil : (a b : Kinds) → or_else a b ≡ [] → (a ≡ []) × (b ≡ [])
or_else_nil [] b e = (refl, e)
or_else_nil (k ∷ a) b e = cc

-- a walk with no fault, from here to its end
pub record Faultless (table : List Text) (w : Walk) (words : List Text) : Type 0 where
  pub walk : walk_fault (shape_with table) [] w words ≡ []
  pub settle : settle_fault (rules_in table) false (fold (walked (rules_in table) []) w words).held ≡ []

-- the first word, and the rest
faultless_word : (table : List Text) (w : Walk) (word : Text) (words : List Text) → Faultless table w (word ∷ words)
    → (turn_fault (shape_with table) [] w word ≡ []) × Faultless table (walked (rules_in table) [] w word) words
unfolding walk_fault
faultless_word table w word words f =
    let parts = or_else_nil (turn_fault (shape_with table) [] w word) (walk_fault (shape_with table) [] (walked (rules_in table) [] w word) words) f.walk in
    (parts.0, record { walk = parts.1; settle = f.settle })

-- what is held has no fault
settles : (table : List Text) (words : List Text) (given : List (Text × Text)) (h : Held) → list_all is_name table ≡ true → Gives table words given → Faultless table (at h) words → settle_fault (rules_in table) false h ≡ []
settles table words given h names nothing f = f.settle
settles table words given h names (one_word [] value more rest is ok gives) f = let bad = known_name table [] names is in cc
settles table words given h names (one_word (x ∷ name) value more rest is ok gives) f =
    let turn = sym (turn_one_is table x name value h (known_name table (x ∷ name) names is) is) ∙ (faultless_word table (at h) _ more f).0 in
    let react = (or_else_nil (react_fault (rules_in table) false (known (x ∷ name)) (value ∷ []) h) [] turn).0 in
    (or_else_nil (settle_fault (rules_in table) false h) _ react).0
settles table words given h names (two_words [] value more rest is ok gives) f = let bad = known_name table [] names is in cc
settles table words given h names (two_words (x ∷ name) value more rest is ok gives) f =
    let turn = sym (turn_name_is table x name h (known_name table (x ∷ name) names is) is) ∙ (faultless_word table (at h) _ (value ∷ more) f).0 in
    (or_else_nil (settle_fault (rules_in table) false h) [] turn).0

-- an option whose use has no fault is new
use_is_new : (name value : Text) (before : List (Text × Text)) → use_fault false (known name) (value ∷ []) (rows before) ≡ [] → is_given name before ≡ false
use_is_new name value before e = elim (is_given name before) as (λ b. is_given name before ≡ b → b ≡ false) [
  | true ↦ λ is. let bad = use-given name value before is in cc
  | false ↦ λ is. refl
] refl

pub all_new : (table : List Text) (words : List Text) (given before : List (Text × Text)) (h : Held) → list_all is_name table ≡ true → Gives table words given
    → settled_rows (rules_in table) h.pending h.rows ≡ rows before → Faultless table (at h) words → are_new before given ≡ true
all_new table words given before h names nothing r f = refl
all_new table words given before h names (one_word [] value more rest is ok gives) r f = let bad = known_name table [] names is in cc
all_new table words given before h names (one_word (x ∷ name) value more rest is ok gives) r f =
    let plain = known_name table (x ∷ name) names is in
    let parts = faultless_word table (at h) _ more f in
    let turn = sym (turn_one_is table x name value h plain is) ∙ parts.0 in
    let react = (or_else_nil (react_fault (rules_in table) false (known (x ∷ name)) (value ∷ []) h) [] turn).0 in
    let passed : use_fault false (known (x ∷ name)) (value ∷ []) (rows before) ≡ [] = ap (use_fault false (known (x ∷ name)) (value ∷ [])) (sym r) ∙ (or_else_nil (settle_fault (rules_in table) false h) _ react).1 in
    let e = use_is_new (x ∷ name) value before passed in
    let next_ok : Faultless table (at (held_after_one table (x ∷ name) value h)) more = subst (λ (w : Walk). Faultless table w more) (walked_one table x name value h plain is) parts.1 in
    let next_rows : used (known (x ∷ name)) (value ∷ []) (settled_rows (rules_in table) h.pending h.rows) ≡ rows (before ++ (x ∷ name, value) ∷ []) = ap (used (known (x ∷ name)) (value ∷ [])) r ∙ used-new (x ∷ name) value before e in
    rw e (all_new table more rest (before ++ (x ∷ name, value) ∷ []) (held_after_one table (x ∷ name) value h) names gives next_rows next_ok)
all_new table words given before h names (two_words [] value more rest is ok gives) r f = let bad = known_name table [] names is in cc
all_new table words given before h names (two_words (x ∷ name) [] more rest is ok gives) r f = cc
all_new table words given before h names (two_words (x ∷ name) (y ∷ value) more rest is ok gives) r f =
    let plain = known_name table (x ∷ name) names is in
    let hyphen = no_hyphen y ok in
    let parts = faultless_word table (at h) _ ((y ∷ value) ∷ more) f in
    let waiting_ok : Faultless table (waits_for table (x ∷ name) h) ((y ∷ value) ∷ more) = subst (λ (w : Walk). Faultless table w ((y ∷ value) ∷ more)) (walked_name table x name h plain is) parts.1 in
    let next_ok : Faultless table (at (held_after_two table (x ∷ name) (y ∷ value) h)) more =
    subst (λ (w : Walk). Faultless table w more) (walked_plain table (x ∷ name) y value h hyphen is) (faultless_word table (waits_for table (x ∷ name) h) (y ∷ value) more waiting_ok).1 in
    let held = settles table more rest (held_after_two table (x ∷ name) (y ∷ value) h) names gives next_ok in
    let passed : use_fault false (known (x ∷ name)) ((y ∷ value) ∷ []) (rows before) ≡ [] = rw (found_id table (x ∷ name) is, r) at held in
    let e = use_is_new (x ∷ name) (y ∷ value) before passed in
    let next_rows : settled_rows (rules_in table) (Some (x ∷ name, (y ∷ value) ∷ [])) (settled_rows (rules_in table) h.pending h.rows) ≡ rows (before ++ (x ∷ name, y ∷ value) ∷ []) = rw (found_id table (x ∷ name) is, r) (used-new (x ∷ name) (y ∷ value) before e) in
    rw e (all_new table more rest (before ++ (x ∷ name, y ∷ value) ∷ []) (held_after_two table (x ∷ name) (y ∷ value) h) names gives next_rows next_ok)

-- the options of words without a fault are distinct
pub are_all_distinct : (table : List Text) (app : App) (words : List Text) (given : List (Text × Text)) → IsTable table → app ≡ command_app table → fault_of app words ≡ [] → Gives table words given → are_distinct given ≡ true
are_all_distinct table app words given is same none gives =
    let all : built_fault (built_with table) nothing_held words ≡ [] = sym (fault_built table words is) ∙ (ap (λ a. fault_of a words) (sym same) ∙ none) in
    let first = or_else_nil (walk_fault (shape_with table) [] (at nothing_held) words) _ all in
    let second = or_else_nil (entered_fault (built_with table) (fold (walked (rules_in table) []) (at nothing_held) words).stopped) _ first.1 in
    let third = or_else_nil (settle_fault (rules_in table) false (fold (walked (rules_in table) []) (at nothing_held) words).held) _ second.1 in
    all_new table words given [] nothing_held is.names gives refl (record { walk = first.0; settle = third.0 })
