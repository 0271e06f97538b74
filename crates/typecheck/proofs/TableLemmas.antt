-- Tables of variables and of labels, as one more is listed.
use Rattle.std.proofs.Common.{◌≡◌, ℕ, ◌+◌, ◌<◌, ◌≤◌, List, [], ◌∷◌, ◌++◌, length, take, get_or, map, sym, ap, ◌∙◌, arith, add-one}
use Rattle.std.proofs.lemmas.Grind.{common_steps}
use Rattle.std.proofs.Math.Seq.{take-suc}
use Rattle.chain_model.specs.declared.values.Sort.{Sort}
use Rattle.chain_model.specs.declared.expressions.Typed.{Typed}
use Rattle.chain_model.specs.declared.chain.Var.{Var}
use Rattle.prism_names.specs.First.{Name}
use Rattle.prism_names.proofs.NameLemmas.{one_more}
use Rattle.typed_trees.specs.Leaves.{variable, shown, numbered}
use Rattle.typed_trees.proofs.TableLemmas.{numbered-push}
use Rattle.typecheck.specs.Paths.{built_in, sorts_of_variables}

small : (n k : ℕ) → k ≡ n → n < 256 → shown k ≡ n
small n k is lt = grind arith

long : (vars : List Var) (n : ℕ) → n < length vars → length (sorts_of_variables (take n vars)) ≡ n
long vars n lt = grind (arith, common_steps)

-- one variable more is numbered by how many stand before it
pub variables-more : (vars : List Var) (n : ℕ) (v : Var) (name : Name) → length vars ≤ 256 → n < length vars → v ≡ get_or vars n v → name ≡ v.name
    → numbered (sorts_of_variables (take n vars)) ++ (name, variable v.sort n) ∷ [] ≡ numbered (sorts_of_variables (take (n + 1) vars))
variables-more vars n v name few lt is same =
    let before : List (Name × Typed) = numbered (sorts_of_variables (take n vars)) in
    ap (λ m. before ++ (m, variable v.sort n) ∷ []) same
    ∙ sym (ap numbered (one_more (λ var. (var.name, var.sort)) vars n v lt is)
    ∙ (numbered-push (sorts_of_variables (take n vars)) (v.name, v.sort)
    ∙ ap (λ k. before ++ (v.name, variable v.sort k) ∷ [])
    (small n (length (sorts_of_variables (take n vars))) (long vars n lt) (let le : n < 256 = omega arith in le))))

-- one label more is listed after the others
pub labels-more : (labels : List (Name × Typed)) (n : ℕ) (l : Name × Typed) (name : Name) (tree : Typed) → n < length labels → l ≡ get_or labels n l
    → name ≡ l.0 → tree ≡ l.1 → (built_in ++ take n labels) ++ (name, tree) ∷ [] ≡ built_in ++ take (n + 1) labels
labels-more labels n l name tree lt is one two =
    ap (λ rest. built_in ++ rest) ((λ i. take n labels ++ (one i, two i) ∷ [])
    ∙ sym (ap (λ k. take k labels) (add-one n) ∙ (take-suc labels n l lt ∙ ap (λ z. take n labels ++ (z ∷ [])) (sym is))))

-- one variable of a text more is numbered by how many stand before it
pub declared-more : {X : Type 0} (f : X → Name × Sort) (xs : List X) (n : ℕ) (x : X) (name : Name) (s : Sort) (k : ℕ) → n < length xs → x ≡ get_or xs n x
    → name ≡ (f x).0 → s ≡ (f x).1 → k ≡ shown n
    → numbered (map f (take n xs)) ++ (name, variable s k) ∷ [] ≡ numbered (map f (take (n + 1) xs))
declared-more {X} f xs n x name s k lt is one two three =
    let before : List (Name × Typed) = numbered (map f (take n xs)) in
    (λ i. before ++ (one i, variable (two i) (three i)) ∷ [])
    ∙ sym (ap numbered (one_more f xs n x lt is) ∙ (numbered-push (map f (take n xs)) (f x)
    ∙ ap (λ j. before ++ ((f x).0, variable (f x).1 (shown j)) ∷ []) (let e : length (map f (take n xs)) ≡ n = grind (arith, common_steps, lt) in e)))
