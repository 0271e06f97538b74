-- What a parse makes of one word.
use Rattle.std.proofs.Common.{◌≡◌, ◌==◌, ℕ, true, false, List, [], ◌∷◌, ◌++◌, Option, Some, None, refl, ap, ◌∙◌}
use Rattle.clap.specs.Walk.{Held, Rule, Walk, used, settled_rows, idle, option, walked, after_step, after_flag, long_or_other, long_met}
use Rattle.clap.specs.Lexer.{short_of}
use Rattle.smc_settings.specs.Options.{Text, is_known}
use Rattle.smc_settings.specs.Parse.{is_plain_name, rules_in}
use Rattle.smc_settings.proofs.NameLemmas.{known, same_self, found_long, found_id, long_one, long_name}

-- where the walk stands between two options
abbrev pub at : Held → Walk
at h = record { held = h; waiting = idle; position = 1; is_trailing = false; stopped = None }

-- what is held after an option in one word, and after one in two
abbrev pub held_after_one : List Text → Text → Text → Held → Held
held_after_one table name value h = record { rows = used (known name) (value ∷ []) (settled_rows (rules_in table) h.pending h.rows); pending = None; skip = h.skip }

abbrev pub held_after_two : List Text → Text → Text → Held → Held
held_after_two table name value h = record { rows = settled_rows (rules_in table) h.pending h.rows; pending = Some (name, value ∷ []); skip = h.skip }

-- the walk after a word that is cut so
abbrev cut_step : List Rule → Text → Held → Option (Text × Option Text) → Walk
cut_step c word h p = after_step c word (at h) (long_or_other c idle word p h).0 (long_or_other c idle word p h).1

-- and for an option that is found so
abbrev found_step : List Rule → Text → Held → Option Text → Option Rule → Walk
found_step c word h v a =
    after_step c word (at h) (after_flag c idle word (long_met c a v h).0 (long_met c a v h).1).0 (after_flag c idle word (long_met c a v h).0 (long_met c a v h).1).1

pub walked_one : (table : List Text) (x : ℕ) (name value : Text) (h : Held) → is_plain_name (x ∷ name) ≡ true → is_known table (x ∷ name) ≡ true
    → walked (rules_in table) [] (at h) (45 ∷ 45 ∷ ((x ∷ name) ++ 61 ∷ value)) ≡ at (held_after_one table (x ∷ name) value h)
unfolding walked
walked_one table x name value h plain is =
    ap (cut_step (rules_in table) (45 ∷ 45 ∷ ((x ∷ name) ++ 61 ∷ value)) h) (long_one x name value plain)
    ∙ ap (found_step (rules_in table) (45 ∷ 45 ∷ ((x ∷ name) ++ 61 ∷ value)) h (Some value)) (found_long table (x ∷ name) is)

-- the walk after the first of two words
abbrev pub waits_for : List Text → Text → Held → Walk
waits_for table name h = record {
  held = record { rows = settled_rows (rules_in table) h.pending h.rows; pending = Some (name, []); skip = h.skip };
  waiting = option name;
  position = 1;
  is_trailing = false;
  stopped = None;
}

pub walked_name : (table : List Text) (x : ℕ) (name : Text) (h : Held) → is_plain_name (x ∷ name) ≡ true → is_known table (x ∷ name) ≡ true
    → walked (rules_in table) [] (at h) (45 ∷ 45 ∷ (x ∷ name)) ≡ waits_for table (x ∷ name) h
unfolding walked
walked_name table x name h plain is =
    ap (cut_step (rules_in table) (45 ∷ 45 ∷ (x ∷ name)) h) (long_name x name plain)
    ∙ ap (found_step (rules_in table) (45 ∷ 45 ∷ (x ∷ name)) h None) (found_long table (x ∷ name) is)

pub no_short : (y : ℕ) (value : Text) → (y == 45) ≡ false → short_of (y ∷ value) ≡ None
no_short y value hyphen = rw hyphen refl

pub walked_plain : (table : List Text) (name : Text) (y : ℕ) (value : Text) (h : Held) → (y == 45) ≡ false → is_known table name ≡ true
    → walked (rules_in table) [] (waits_for table name h) (y ∷ value) ≡ at (held_after_two table name (y ∷ value) h)
unfolding walked
walked_plain table name y value h hyphen is =
    rw (hyphen, no_short y value hyphen, found_id table name is, same_self name) refl
