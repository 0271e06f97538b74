-- Words that give options, each once, are walked to their rows without a fault.
use Rattle.std.proofs.Common.{◌≡◌, ◌==◌, true, false, not, List, [], ◌∷◌, ◌++◌, refl, ap, ◌∙◌, append-nil, append_assoc, fold}
use Rattle.std.specs.List.{list_all}
use Rattle.clap.specs.Walk.{Held, nothing_held, Walk, walked}
use Rattle.clap.specs.Faults.{walk_fault, turn_fault}
use Rattle.clap.specs.Kinds.{or_else}
use Rattle.smc_settings.specs.Options.{Text, Gives, nothing, one_word, two_words, is_given, are_new, are_distinct}
use Rattle.smc_settings.specs.Parse.{is_plain_name, is_name, rules_in, shape_with, IsTable}
use Rattle.smc_settings.proofs.NameLemmas.{both, known_name, no_hyphen, not_given}
use Rattle.smc_settings.proofs.StepLemmas.{at, held_after_one, held_after_two, walked_one, waits_for, walked_name, walked_plain}
use Rattle.smc_settings.proofs.RowLemmas.{Reads, reads_one, reads_two, reads_nothing}
use Rattle.smc_settings.proofs.TurnLemmas.{turn_one, turn_name, turn_plain}

-- the walk over words, and what it ends with
pub record Walks (table : List Text) (all : List (Text × Text)) (w : Walk) (words : List Text) : Type 0 where
  pub end : Held
  pub walk : fold (walked (rules_in table) []) w words ≡ at end
  pub reads : Reads table all end
  pub passes : walk_fault (shape_with table) [] w words ≡ []

-- one word more in front
pub word_more : (table : List Text) (all : List (Text × Text)) (w v : Walk) (word : Text) (words : List Text) → walked (rules_in table) [] w word ≡ v → turn_fault (shape_with table) [] w word ≡ []
    → Walks table all v words → Walks table all w (word ∷ words)
unfolding walk_fault
word_more table all w v word words step turn rest = record {
  end = rest.end;
  walk = ap (λ u. fold (walked (rules_in table) []) u words) step ∙ rest.walk;
  reads = rest.reads;
  passes = ap (λ ks. or_else ks (walk_fault (shape_with table) [] (walked (rules_in table) [] w word) words)) turn ∙ (ap (λ u. walk_fault (shape_with table) [] u words) step ∙ rest.passes);
}

no_words : (table : List Text) (before : List (Text × Text)) (h : Held) → Reads table before h → Walks table before (at h) []
unfolding walk_fault
no_words table before h r = record { end = h; walk = refl; reads = r; passes = refl }

-- words that give options are walked to their rows, with no fault
pub walks : (table : List Text) (words : List Text) (given before : List (Text × Text)) (h : Held) → list_all is_name table ≡ true → Gives table words given → are_new before given ≡ true → Reads table before h
    → Walks table (before ++ given) (at h) words
walks table words given before h names nothing new r = rw (append-nil before) (no_words table before h r)
walks table words given before h names (one_word [] value more rest is ok gives) new r = let bad = known_name table [] names is in cc
walks table words given before h names (one_word (x ∷ name) value more rest is ok gives) new r =
    let plain : is_plain_name (x ∷ name) ≡ true = known_name table (x ∷ name) names is in
    let fresh = both (not (is_given (x ∷ name) before)) (are_new (before ++ (x ∷ name, value) ∷ []) rest) new in
    let e : is_given (x ∷ name) before ≡ false = not_given _ fresh.0 in
    let next_one = walks table more rest (before ++ (x ∷ name, value) ∷ []) (held_after_one table (x ∷ name) value h) names gives fresh.1 (reads_one table (x ∷ name) value before h r e) in
    rw (← append_assoc before ((x ∷ name, value) ∷ []) rest)
    (word_more table _ (at h) (at (held_after_one table (x ∷ name) value h)) _ more (walked_one table x name value h plain is) (turn_one table x name value before h plain is r e) next_one)
walks table words given before h names (two_words [] value more rest is ok gives) new r = let bad = known_name table [] names is in cc
walks table words given before h names (two_words (x ∷ name) [] more rest is ok gives) new r = cc
walks table words given before h names (two_words (x ∷ name) (y ∷ value) more rest is ok gives) new r =
    let plain : is_plain_name (x ∷ name) ≡ true = known_name table (x ∷ name) names is in
    let hyphen : (y == 45) ≡ false = no_hyphen y ok in
    let fresh = both (not (is_given (x ∷ name) before)) (are_new (before ++ (x ∷ name, y ∷ value) ∷ []) rest) new in
    let e : is_given (x ∷ name) before ≡ false = not_given _ fresh.0 in
    let next_two = walks table more rest (before ++ (x ∷ name, y ∷ value) ∷ []) (held_after_two table (x ∷ name) (y ∷ value) h) names gives fresh.1 (reads_two table (x ∷ name) (y ∷ value) before h r is e) in
    rw (← append_assoc before ((x ∷ name, y ∷ value) ∷ []) rest)
    (word_more table _ (at h) (waits_for table (x ∷ name) h) _ ((y ∷ value) ∷ more) (walked_name table x name h plain is) (turn_name table x name before h plain is r)
    (word_more table _ (waits_for table (x ∷ name) h) (at (held_after_two table (x ∷ name) (y ∷ value) h)) _ more (walked_plain table (x ∷ name) y value h hyphen is) (turn_plain table (x ∷ name) y value h hyphen is) next_two))

-- the walk over all words
pub whole_walk : (table words : List Text) (given : List (Text × Text)) → IsTable table → Gives table words given → are_distinct given ≡ true → Walks table given (at nothing_held) words
whole_walk table words given is gives new = walks table words given [] nothing_held is.names gives new (reads_nothing table)
