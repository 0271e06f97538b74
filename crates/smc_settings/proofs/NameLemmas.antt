-- Names of options, and the words that have them.
use Rattle.std.proofs.Common.{◌≡◌, ◌==◌, ◌&&◌, ◌||◌, ℕ, suc, ◌+◌, Bool, true, false, not, List, [], ◌∷◌, ◌++◌, Some, None, refl, ap, ◌∙◌, arith, length, if◌then◌else◌, cond, drop}
use Rattle.std.specs.List.{list_any, list_all, position_or_len}
use Rattle.std.specs.Str.{bytes_eq}
use Rattle.std.proofs.lemmas.Slice.Eq.{bytes_eq-Decides}
use Rattle.std.proofs.Math.Bool.{or-true}
use Rattle.std.proofs.Math.Seq.{take-append_seam, take-length}
use Rattle.clap.specs.Walk.{Rule, arg_by_long, arg_by_id}
use Rattle.clap.specs.Lexer.{long_of, name_and_value, has_byte}
use Rattle.smc_settings.specs.Options.{Text, is_known}
use Rattle.smc_settings.specs.Parse.{option_rule, is_plain_name, is_name, rules_in}
use Rattle.clap.specs.Simple.{filled}

-- an option as the parse reads it
abbrev pub known : Text → Rule
known name = filled (option_rule name)

-- texts that are found equal are equal
pub same_text : (a b : Text) → bytes_eq a b ≡ true → a ≡ b
same_text a b e = (bytes_eq-Decides a b).0 e

pub same_self : (a : Text) → bytes_eq a a ≡ true
same_self a = (bytes_eq-Decides a a).1 refl

-- an option that is in the table is found, by its long name and by its id
pub found_long : (table : List Text) (name : Text) → is_known table name ≡ true → arg_by_long (rules_in table) name ≡ Some (known name)
found_long [] name e = cc
found_long (k ∷ table) name e = elim (bytes_eq k name) as (λ b. bytes_eq k name ≡ b → (b || is_known table name) ≡ true → (if b || false then Some (known k) else arg_by_long (rules_in table) name) ≡ Some (known name)) [
  | true ↦ λ is more. let same : k ≡ name = same_text k name is in rw same refl
  | false ↦ λ is more. found_long table name more
] refl e

pub found_id : (table : List Text) (name : Text) → is_known table name ≡ true → arg_by_id (rules_in table) name ≡ Some (known name)
found_id [] name e = cc
found_id (k ∷ table) name e = elim (bytes_eq k name) as (λ b. bytes_eq k name ≡ b → (b || is_known table name) ≡ true → (if b then Some (known k) else arg_by_id (rules_in table) name) ≡ Some (known name)) [
  | true ↦ λ is more. let same : k ≡ name = same_text k name is in rw same refl
  | false ↦ λ is more. found_id table name more
] refl e

one_more : (n : ℕ) → 1 + n ≡ suc n
one_more n = omega arith

-- where the first `=` stands
pub equals_at : (name value : Text) → is_plain_name name ≡ true → position_or_len (λ x. x == 61) (name ++ 61 ∷ value) ≡ length name
equals_at [] value h = refl
equals_at (x ∷ name) value h = elim (x == 61) as (λ b. not (b || list_any (λ y. y == 61) name) ≡ true → cond (not b) (1 + position_or_len (λ y. y == 61) (name ++ 61 ∷ value)) 0 ≡ suc (length name)) [
  | true ↦ λ e. cc
  | false ↦ λ e. one_more (position_or_len (λ y. y == 61) (name ++ 61 ∷ value)) ∙ ap suc (equals_at name value e)
] h

pub equals_nowhere : (name : Text) → is_plain_name name ≡ true → position_or_len (λ x. x == 61) name ≡ length name
equals_nowhere [] h = refl
equals_nowhere (x ∷ name) h = elim (x == 61) as (λ b. not (b || list_any (λ y. y == 61) name) ≡ true → cond (not b) (1 + position_or_len (λ y. y == 61) name) 0 ≡ suc (length name)) [
  | true ↦ λ e. cc
  | false ↦ λ e. one_more (position_or_len (λ y. y == 61) name) ∙ ap suc (equals_nowhere name e)
] h

has_equals : (name value : Text) → has_byte 61 (name ++ 61 ∷ value) ≡ true
has_equals [] value = refl
has_equals (x ∷ name) value = rw (has_equals name value, or-true) refl

no_equals : (name : Text) → is_plain_name name ≡ true → has_byte 61 name ≡ false
no_equals name h = elim (list_any (λ x. x == 61) name) as (λ b. not b ≡ true → b ≡ false) [ true ↦ λ e. cc | false ↦ λ e. refl ] h

behind : (name value : Text) → drop (length name + 1) (name ++ 61 ∷ value) ≡ value
behind [] value = refl
behind (x ∷ name) value = let e : suc (length name) + 1 ≡ suc (length name + 1) = omega arith in rw e (behind name value)

-- a name with a value behind it
pub cut_one : (name value : Text) → is_plain_name name ≡ true → name_and_value (name ++ 61 ∷ value) ≡ (name, Some value)
cut_one name value h = rw (equals_at name value h, has_equals name value, take-append_seam name (61 ∷ value), behind name value) refl

-- a name alone
pub cut_name : (name : Text) → is_plain_name name ≡ true → name_and_value name ≡ (name, None)
cut_name name h = rw (equals_nowhere name h, no_equals name h, take-length name) refl

-- a word with its name and its value
pub long_one : (x : ℕ) (name value : Text) → is_plain_name (x ∷ name) ≡ true → long_of (45 ∷ 45 ∷ ((x ∷ name) ++ 61 ∷ value)) ≡ Some (x ∷ name, Some value)
long_one x name value h = ap (λ v. Some v) (cut_one (x ∷ name) value h)

pub long_name : (x : ℕ) (name : Text) → is_plain_name (x ∷ name) ≡ true → long_of (45 ∷ 45 ∷ (x ∷ name)) ≡ Some (x ∷ name, None)
long_name x name h = ap (λ v. Some v) (cut_name (x ∷ name) h)

pub both : (a b : Bool) → (a && b) ≡ true → (a ≡ true) × (b ≡ true)
both true true e = (refl, refl)
both true false e = cc
both false b e = cc

pub known_name : (table : List Text) (name : Text) → list_all is_name table ≡ true → is_known table name ≡ true → is_name name ≡ true
known_name [] name h e = cc
known_name (k ∷ table) name h e = elim (bytes_eq k name) as (λ b. bytes_eq k name ≡ b → (b || is_known table name) ≡ true → is_name name ≡ true) [
  | true ↦ λ is more. let same : k ≡ name = same_text k name is in rw (← same) (both (is_name k) (list_all is_name table) h).0
  | false ↦ λ is more. known_name table name (both (is_name k) (list_all is_name table) h).1 more
] refl e

pub no_hyphen : (y : ℕ) → not (y == 45) ≡ true → (y == 45) ≡ false
no_hyphen y e = elim (y == 45) as (λ b. not b ≡ true → b ≡ false) [ true ↦ λ f. cc | false ↦ λ f. refl ] e

pub not_given : (b : Bool) → not b ≡ true → b ≡ false
not_given true e = cc
not_given false e = refl
