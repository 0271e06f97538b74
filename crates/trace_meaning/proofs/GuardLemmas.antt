-- A test of each item of a list, one item further.
use Rattle.std.proofs.Math.Seq.{drop-cons}
use Rattle.std.proofs.Common.{◌≡◌, ℕ, suc, ◌+◌, ◌<◌, List, length, get_or, drop, sym, ap, ◌∙◌, add-one, Bool, true, false, ◌&&◌}
use Rattle.std.specs.List.{list_all}

all_at : (test : ℕ → Bool) (xs : List ℕ) (i d : ℕ) (b : Bool) → i < length xs → b ≡ test (get_or xs i d) → list_all test (drop i xs) ≡ (b && list_all test (drop (i + 1) xs))
all_at test xs i d b lt is =
    ap (list_all test) (drop-cons xs i d lt)
    ∙ ap (λ t. t && list_all test (drop (suc i) xs)) (sym is)
    ∙ ap (λ k. b && list_all test (drop k xs)) (sym (add-one i))

pub all_next : (test : ℕ → Bool) (xs : List ℕ) (i d : ℕ) (b whole : Bool) → i < length xs → b ≡ test (get_or xs i d) → b ≡ true
    → list_all test (drop i xs) ≡ whole → list_all test (drop (i + 1) xs) ≡ whole
all_next test xs i d b whole lt is holds so =
    ap (λ t. t && list_all test (drop (i + 1) xs)) (sym holds) ∙ sym (all_at test xs i d b lt is) ∙ so

pub all_fails : (test : ℕ → Bool) (xs : List ℕ) (i d : ℕ) (b whole : Bool) → i < length xs → b ≡ test (get_or xs i d) → b ≡ false
    → list_all test (drop i xs) ≡ whole → false ≡ whole
all_fails test xs i d b whole lt is fails so =
    ap (λ t. t && list_all test (drop (i + 1) xs)) (sym fails) ∙ sym (all_at test xs i d b lt is) ∙ so
