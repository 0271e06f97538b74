-- How many choices actions have, list by list and action by action.
use Rattle.std.proofs.Common.{◌≡◌, ℕ, ◌+◌, ◌*◌, ◌<◌, ◌≤◌, ◌^◌, List, length, get_or, drop, map, min, Bool, sym, ap, ◌∙◌, arith}
use Rattle.std.specs.Prelude.{filter}
use Rattle.std.proofs.lemmas.List.{drop-map, get_or-map, length-map, drop_all}
use Rattle.trace_meaning.proofs.CombinationLemmas.{product_next}
use Rattle.chain_model.specs.Choices.{combinations}
use Rattle.successors.specs.Partition.{joint_lists}

-- the enabled items of a list of the lists
pub enabled_at : (p : ℕ → Bool) (lists : List (List ℕ)) (i : ℕ) (item : List ℕ) → i < length lists → item ≡ get_or lists i item
    → filter p item ≡ get_or (map (filter p) lists) i (filter p item)
enabled_at p lists i item lt is = ap (filter p) is ∙ sym (get_or-map (filter p) lists i item (filter p item) lt)

-- one list further
pub joint_next : (p : ℕ → Bool) (lists : List (List ℕ)) (i product count next : ℕ) (item : List ℕ) (whole : ℕ) → i < length lists → item ≡ get_or lists i item
    → count ≡ length (filter p item) → next ≡ min (product * count) (2 ^ 48 + 1)
    → min (product * length (joint_lists p (drop i lists))) (2 ^ 48 + 1) ≡ whole
    → min (next * length (joint_lists p (drop (i + 1) lists))) (2 ^ 48 + 1) ≡ whole
joint_next p lists i product count next item whole lt is counts nexts so =
    ap (λ n. min (n * length (joint_lists p (drop (i + 1) lists))) (2 ^ 48 + 1)) (nexts ∙ ap (λ n. min (product * n) (2 ^ 48 + 1)) counts)
    ∙ ap (λ ls. min (min (product * length (filter p item)) (2 ^ 48 + 1) * length (combinations ls)) (2 ^ 48 + 1)) (sym (drop-map (filter p) (i + 1) lists))
    ∙ product_next (map (filter p) lists) i product (2 ^ 48 + 1) whole (filter p item)
    (omega (arith, lt, length-map lists (filter p))) (enabled_at p lists i item lt is)
    (ap (λ ls. min (product * length (combinations ls)) (2 ^ 48 + 1)) (drop-map (filter p) i lists) ∙ so)

-- no list is left
pub joint_all : (p : ℕ → Bool) (lists : List (List ℕ)) (i product whole : ℕ) → length lists ≤ i → product ≤ 2 ^ 48 + 1
    → min (product * length (joint_lists p (drop i lists))) (2 ^ 48 + 1) ≡ whole → product ≡ whole
joint_all p lists i product whole past small so =
    let none = ap (λ ls. min (product * length (joint_lists p ls)) (2 ^ 48 + 1)) (drop_all i lists past) in
    omega (arith, none, so, small)
