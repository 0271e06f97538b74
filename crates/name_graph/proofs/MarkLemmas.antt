-- Marks of places.
use Rattle.std.proofs.Common.{◌≡◌, ◌≢◌, ℕ, ◌+◌, ◌<◌, List, [], ◌∷◌, Bool, true, false, not, length, get_or, set, replicate, cond, arith, refl, sym, ap, ◌∙◌}
use Rattle.std.specs.Prelude.{◌⊎◌}
use mathlib.Core.Logic.{inl, inr}
use Rattle.std.proofs.lemmas.Grind.{common_steps, get_or-set_at}
use Rattle.std.proofs.lemmas.List.{get_or-set_other}
use Rattle.std.proofs.lemmas.List.Sums.{sum_by-set}
use Rattle.std.proofs.Math.ListN.{get_or-eq_default}
use Rattle.name_graph.specs.PartOrder.{IsMarked, unmarked}

-- a marked place is within
pub marked_within : (marks : List Bool) (j : ℕ) → IsMarked marks j → j < length marks
marked_within marks j marked = grind (arith, get_or-eq_default, marked)

pub same_or_not : (i j : ℕ) → (i ≡ j) ⊎ (i ≢ j)
same_or_not i j = grind arith

pub not_both : (b : Bool) → b ≡ true → b ≡ false → ⊥
not_both b holds fails = grind (arith, holds, fails)

-- one mark more keeps the others
pub mark_kept : (marks : List Bool) (j q : ℕ) → j < length marks → IsMarked marks q → IsMarked (set marks j true) q
mark_kept marks j q within marked = elim (same_or_not q j) [ inl e ↦ get_or-set_at marks j q true false e within | inr ne ↦ get_or-set_other marks j q true false ne ∙ marked ]

-- and adds no other
pub mark_from : (marks : List Bool) (j q : ℕ) → IsMarked (set marks j true) q → IsMarked marks q ⊎ (j ≡ q)
mark_from marks j q marked = elim (same_or_not q j) [ inl e ↦ inr (sym e) | inr ne ↦ inl (sym (get_or-set_other marks j q true false ne) ∙ marked) ]

pub mark_count : (marks : List Bool) (j : ℕ) → j < length marks → get_or marks j false ≡ false → unmarked (set marks j true) + 1 ≡ unmarked marks
mark_count marks j within fresh =
    let both = sum_by-set (λ x. cond (not x) 1 0) marks j true false within in
    let weight : Bool → ℕ = λ b. cond (not b) 1 0 in
    let one : weight (get_or marks j false) ≡ weight false = ap weight fresh in
    omega (arith, both, one)

pub no_marks : (n j : ℕ) → IsMarked (replicate n false) j → ⊥
no_marks n j marked = grind (arith, common_steps, marked)

-- where not all are marked, one is not
pub some_unmarked : (marks : List Bool) → 0 < unmarked marks → (j : ℕ) × (j < length marks) × (get_or marks j false ≡ false)
some_unmarked [] more = absurd (omega (arith, more))
some_unmarked (true ∷ marks) more =
    let rest = some_unmarked marks (grind (arith, common_steps, more)) in
    (rest.0 + 1, grind (arith, common_steps, rest.1), grind (arith, common_steps, rest.2))
some_unmarked (false ∷ marks) more = (0, grind (arith, common_steps), refl)
