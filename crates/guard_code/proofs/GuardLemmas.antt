-- A test of each item of a list, one item further.
use Rattle.std.proofs.Math.Seq.{drop-cons}
use Rattle.std.proofs.Common.{◌≡◌, ℕ, suc, ◌+◌, ◌<◌, List, length, get_or, drop, sym, ap, ◌∙◌, add-one, Bool, true, false, ◌&&◌}
use Rattle.std.specs.List.{list_all}
use Rattle.std.specs.Prelude.{map, ◌||◌}
use Rattle.guard_code.specs.declared.code.Command.{Command}
use Rattle.guard_code.specs.Guards.{Told, holds, some_enabled}

all_at : (test : ℕ → Bool) (xs : List ℕ) (i d : ℕ) (b : Bool) → i < length xs → b ≡ test (get_or xs i d) → list_all test (drop i xs) ≡ (b && list_all test (drop (i + 1) xs))
all_at test xs i d b lt is =
    ap (list_all test) (drop-cons xs i d lt)
    ∙ ap (λ t. t && list_all test (drop (suc i) xs)) (sym is)
    ∙ ap (λ k. b && list_all test (drop k xs)) (sym (add-one i))

pub all_next : (test : ℕ → Bool) (xs : List ℕ) (i d : ℕ) (b whole : Bool) → i < length xs → b ≡ test (get_or xs i d) → b ≡ true
    → list_all test (drop i xs) ≡ whole → list_all test (drop (i + 1) xs) ≡ whole
all_next test xs i d b whole lt is holds so =
    ap (λ t. t && list_all test (drop (i + 1) xs)) (sym holds) ∙ sym (all_at test xs i d b lt is) ∙ so

pub all_fails : (test : ℕ → Bool) (xs : List ℕ) (i d : ℕ) (b whole : Bool) → i < length xs → b ≡ test (get_or xs i d) → b ≡ false
    → list_all test (drop i xs) ≡ whole → false ≡ whole
all_fails test xs i d b whole lt is fails so =
    ap (λ t. t && list_all test (drop (i + 1) xs)) (sym fails) ∙ sym (all_at test xs i d b lt is) ∙ so

-- one command further among those of which some may be enabled
any_at : (test : Told → Bool) (f : Command → Told) (xs : List Command) (i : ℕ) (x : Command) (b : Bool) → i < length xs → x ≡ get_or xs i x → b ≡ (test (f x) && holds (f x).guard)
    → some_enabled test (map f (drop i xs)) ≡ (b || some_enabled test (map f (drop (i + 1) xs)))
any_at test f xs i x b lt is so =
    ap (λ (z : List Command). some_enabled test (map f z)) (drop-cons xs i x lt)
    ∙ ap (λ (y : Command). (test (f y) && holds (f y).guard) || some_enabled test (map f (drop (suc i) xs))) (sym is)
    ∙ ap (λ t. t || some_enabled test (map f (drop (suc i) xs))) (sym so)
    ∙ ap (λ k. b || some_enabled test (map f (drop k xs))) (sym (add-one i))

pub any_next : (test : Told → Bool) (f : Command → Told) (xs : List Command) (i : ℕ) (x : Command) (b whole : Bool) → i < length xs → x ≡ get_or xs i x
    → b ≡ (test (f x) && holds (f x).guard) → b ≡ false → some_enabled test (map f (drop i xs)) ≡ whole → some_enabled test (map f (drop (i + 1) xs)) ≡ whole
any_next test f xs i x b whole lt is so fails before =
    ap (λ t. t || some_enabled test (map f (drop (i + 1) xs))) (sym fails) ∙ sym (any_at test f xs i x b lt is so) ∙ before

pub any_holds : (test : Told → Bool) (f : Command → Told) (xs : List Command) (i : ℕ) (x : Command) (b whole : Bool) → i < length xs → x ≡ get_or xs i x
    → b ≡ (test (f x) && holds (f x).guard) → b ≡ true → some_enabled test (map f (drop i xs)) ≡ whole → true ≡ whole
any_holds test f xs i x b whole lt is so there before =
    ap (λ t. t || some_enabled test (map f (drop (i + 1) xs))) (sym there) ∙ sym (any_at test f xs i x b lt is so) ∙ before
