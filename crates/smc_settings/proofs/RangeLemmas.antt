-- The numbers of settings are within their ranges.
use Rattle.std.proofs.Common.{◌≡◌, ◌==◌, ◌&&◌, ◌≤◌, ◌^◌, List, arith, ℕ, Bool, true, false, Option, Some, None, nat_le, cond, refl, subst, codes}
use Rattle.std.specs.List.{before_first, after_first}
use Rattle.std.specs.Str.Parse.{digits_value}
use Rattle.std.proofs.lemmas.Bool.{and_parts, leb-true}
use Rattle.smc_settings.specs.declared.commands.Settings.{Settings}
use Rattle.smc_settings.specs.declared.commands.TestWords.{TestWords}
use Rattle.smc_settings.specs.declared.commands.TestWords.TheVariants as test
use Rattle.smc_settings.specs.Options.{Text}
use Rattle.smc_settings.specs.Values.{is_whole, whole_within, whole_or, plan_from}
use Rattle.smc_settings.specs.Settings.{IsTest, plan, wald, IsCheck, check_settings, IsTrace, trace_settings, IsExpand, expand_settings, IsMake, make_settings, IsSettings, check, trace, expand, make, help, IsPlanWithin, AreWithin}

-- a whole number that is found is within its range
pub found_within : (least most n : ℕ) (text : Text) → whole_within least most text ≡ Some n → (least ≤ n) × (n ≤ most)
found_within least most n text e = by_test (is_whole text && nat_le least (digits_value 10 text) && nat_le (digits_value 10 text) most) refl e
  where
    by_test : (t : Bool) → (is_whole text && nat_le least (digits_value 10 text) && nat_le (digits_value 10 text) most) ≡ t → cond t (Some (digits_value 10 text)) None ≡ Some n → (least ≤ n) × (n ≤ most)
    by_test true is f =
        let same : digits_value 10 text ≡ n = cc f in
        let parts = and_parts (is_whole text && nat_le least (digits_value 10 text)) (nat_le (digits_value 10 text) most) is in
        let low = (and_parts (is_whole text) (nat_le least (digits_value 10 text)) parts.0).1 in
        (subst (λ m. least ≤ m) same (leb-true _ _ low), subst (λ m. m ≤ most) same (leb-true _ _ parts.1))
    by_test false is f = absurd (cc f)

pub or_within : (default least most n : ℕ) (text : Option Text) → least ≤ default → default ≤ most → whole_or default least most text ≡ Some n → (least ≤ n) × (n ≤ most)
or_within default least most n None low high e = let same : default ≡ n = cc e in (subst (λ m. least ≤ m) same low, subst (λ m. m ≤ most) same high)
or_within default least most n (Some text) low high e = found_within least most n text e

-- and so are the numbers of a plan
plan_within : (a b : Option ℕ) (words : TestWords) → ((n : ℕ) → a ≡ Some n → n ≤ 2 ^ 28) → ((n : ℕ) → b ≡ Some n → n ≤ 2 ^ 28) → plan_from a b ≡ Some words → IsPlanWithin words
plan_within None b words f g e = absurd (cc e)
plan_within (Some n) None words f g e = absurd (cc e)
plan_within (Some n) (Some c) words f g e = let same : test.Plan n c ≡ words = cc e in subst (λ w. IsPlanWithin w) same (f n refl, g c refl)

test_within : (p d a b : Option Text) (words : TestWords) → IsTest p d a b words → IsPlanWithin words
test_within _ _ _ _ words (plan text _ e) =
    plan_within (whole_within 0 (2 ^ 28) (before_first (λ byte. byte == 44) text)) (whole_within 0 (2 ^ 28) (after_first (λ byte. byte == 44) text)) words
    (λ n f. (found_within 0 (2 ^ 28) n (before_first (λ byte. byte == 44) text) f).1)
    (λ n f. (found_within 0 (2 ^ 28) n (after_first (λ byte. byte == 44) text) f).1) e
test_within _ _ _ _ _ (wald delta alpha beta width first second a b c) = tt

check_within : (v : Text → Option Text) (s : Settings) → IsCheck v s → AreWithin s
check_within v _ (check_settings model property given seed words limit workers a b c d t f g) =
    let limits = or_within 1000000 1 (2 ^ 28) limit (v (codes "limit")) (omega arith) (omega arith) f in
    let threads = or_within 1 1 64 workers (v (codes "workers")) (omega arith) (omega arith) g in
    (test_within _ _ _ _ words t, limits.0, limits.1, threads.0, threads.1)

trace_within : (v : Text → Option Text) (s : Settings) → IsTrace v s → AreWithin s
trace_within v _ (trace_settings model given seed index steps a c d f g) = (or_within 10 0 10000 steps (v (codes "steps")) (omega arith) (omega arith) g).1

make_within : (v : Text → Option Text) (s : Settings) → IsMake v s → AreWithin s
make_within v _ (make_settings stations seed workers a odd b c) =
    let size = or_within 9 3 63 stations (v (codes "stations")) (omega arith) (omega arith) a in
    let threads = or_within 1 1 64 workers (v (codes "workers")) (omega arith) (omega arith) c in
    (size.0, size.1, odd, threads.0, threads.1)

expand_within : (v : Text → Option Text) (s : Settings) → IsExpand v s → AreWithin s
expand_within v _ (expand_settings model a) = tt

pub are_within : (words : List Text) (s : Settings) → IsSettings words s → AreWithin s
are_within _ s (check _ _ _ _ is) = check_within _ s is.has_settings
are_within _ s (trace _ _ _ _ is) = trace_within _ s is.has_settings
are_within _ s (expand _ _ _ _ is) = expand_within _ s is.has_settings
are_within _ s (make _ _ _ _ is) = make_within _ s is.has_settings
are_within _ _ (help _ _) = tt
