-- The faults of one word.
use Rattle.std.proofs.Common.{◌≡◌, ◌==◌, ℕ, true, false, List, [], ◌∷◌, ◌++◌, Option, Some, None, refl, ap, ◌∙◌}
use Rattle.clap.specs.Walk.{Held, Rule, idle, after_flag, long_or_other, long_met}
use Rattle.clap.specs.Faults.{flag_word_fault, step_fault, long_fault, react_fault, settle_fault, turn_fault}
use Rattle.clap.specs.Kinds.{or_else, Kinds}
use Rattle.smc_settings.specs.Options.{Text, is_known, is_given}
use Rattle.smc_settings.specs.Parse.{is_plain_name, rules_in, shape_with}
use Rattle.smc_settings.proofs.NameLemmas.{known, found_long, long_one, long_name}
use Rattle.smc_settings.proofs.StepLemmas.{at, waits_for, no_short}
use Rattle.smc_settings.proofs.RowLemmas.{Reads, use-new}

abbrev turn_cut : List Text → Text → Held → Option (Text × Option Text) → Kinds
turn_cut table word h p = or_else (flag_word_fault (rules_in table) false p word h)
    (step_fault (shape_with table) 1 (long_or_other (rules_in table) idle word p h).0 (long_or_other (rules_in table) idle word p h).1)

abbrev turn_found : List Text → Text → Held → Option Text → Option Rule → Kinds
turn_found table word h v a = or_else (long_fault (rules_in table) false a v h)
    (step_fault (shape_with table) 1 (after_flag (rules_in table) idle word (long_met (rules_in table) a v h).0 (long_met (rules_in table) a v h).1).0 (after_flag (rules_in table) idle word (long_met (rules_in table) a v h).0 (long_met (rules_in table) a v h).1).1)

pub turn_one : (table : List Text) (x : ℕ) (name value : Text) (before : List (Text × Text)) (h : Held) → is_plain_name (x ∷ name) ≡ true → is_known table (x ∷ name) ≡ true → Reads table before h → is_given (x ∷ name) before ≡ false
    → turn_fault (shape_with table) [] (at h) (45 ∷ 45 ∷ ((x ∷ name) ++ 61 ∷ value)) ≡ []
turn_one table x name value before h plain is r e =
    let react : react_fault (rules_in table) false (known (x ∷ name)) (value ∷ []) h ≡ [] = rw (r.passes, r.settled) (use-new (x ∷ name) value before e) in
    ap (turn_cut table (45 ∷ 45 ∷ ((x ∷ name) ++ 61 ∷ value)) h) (long_one x name value plain)
    ∙ (ap (turn_found table (45 ∷ 45 ∷ ((x ∷ name) ++ 61 ∷ value)) h (Some value)) (found_long table (x ∷ name) is) ∙ ap (λ ks. or_else ks []) react)

pub turn_name : (table : List Text) (x : ℕ) (name : Text) (before : List (Text × Text)) (h : Held) → is_plain_name (x ∷ name) ≡ true → is_known table (x ∷ name) ≡ true → Reads table before h
    → turn_fault (shape_with table) [] (at h) (45 ∷ 45 ∷ (x ∷ name)) ≡ []
turn_name table x name before h plain is r =
    ap (turn_cut table (45 ∷ 45 ∷ (x ∷ name)) h) (long_name x name plain)
    ∙ (ap (turn_found table (45 ∷ 45 ∷ (x ∷ name)) h None) (found_long table (x ∷ name) is) ∙ ap (λ ks. or_else ks []) r.passes)

pub turn_plain : (table : List Text) (name : Text) (y : ℕ) (value : Text) (h : Held) → (y == 45) ≡ false → is_known table name ≡ true
    → turn_fault (shape_with table) [] (waits_for table name h) (y ∷ value) ≡ []
turn_plain table name y value h hyphen is = rw (hyphen, no_short y value hyphen) refl

pub turn_one_is : (table : List Text) (x : ℕ) (name value : Text) (h : Held) → is_plain_name (x ∷ name) ≡ true → is_known table (x ∷ name) ≡ true
    → turn_fault (shape_with table) [] (at h) (45 ∷ 45 ∷ ((x ∷ name) ++ 61 ∷ value)) ≡ or_else (react_fault (rules_in table) false (known (x ∷ name)) (value ∷ []) h) []
turn_one_is table x name value h plain is =
    ap (turn_cut table (45 ∷ 45 ∷ ((x ∷ name) ++ 61 ∷ value)) h) (long_one x name value plain)
    ∙ ap (turn_found table (45 ∷ 45 ∷ ((x ∷ name) ++ 61 ∷ value)) h (Some value)) (found_long table (x ∷ name) is)

pub turn_name_is : (table : List Text) (x : ℕ) (name : Text) (h : Held) → is_plain_name (x ∷ name) ≡ true → is_known table (x ∷ name) ≡ true
    → turn_fault (shape_with table) [] (at h) (45 ∷ 45 ∷ (x ∷ name)) ≡ or_else (settle_fault (rules_in table) false h) []
turn_name_is table x name h plain is =
    ap (turn_cut table (45 ∷ 45 ∷ (x ∷ name)) h) (long_name x name plain) ∙ ap (turn_found table (45 ∷ 45 ∷ (x ∷ name)) h None) (found_long table (x ∷ name) is)
