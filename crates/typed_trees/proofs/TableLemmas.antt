-- Tables of trees by name, as one tree more is listed.
use Rattle.std.proofs.Common.{Bor, Contains, is_some, not, option_copied, unwrap_or, ◌≡◌, ℕ, ◌+◌, List, [], ◌∷◌, ◌++◌, length, Option, Bool, true, false, map, cond, bytes_eq, refl, sym, ap, ◌∙◌, subst, arith}
use Rattle.std.specs.Prelude.{None, Some}
use mathlib.Core.Logic.{inl, inr}
use Rattle.std.specs.Bool.{Decides}
use Rattle.std.specs.Map.{lookup}
use Rattle.std.specs.List.{enumerate_from}
use Rattle.std.specs.Option.{option_or}
use Rattle.std.proofs.lemmas.Bool.{cases_Bool}
use Rattle.std.proofs.lemmas.List.{map-append}
use Rattle.std.proofs.lemmas.List.Elements.{Contains-push_cases}
use Rattle.std.proofs.lemmas.Slice.Eq.{bytes_eq-Decides}
use Rattle.chain_model.specs.declared.values.Sort.{Sort}
use Rattle.chain_model.specs.declared.expressions.Typed.{Typed}
use Rattle.prism_names.specs.First.{Name}
use Rattle.chain_model.specs.Values.{Valued}
use Rattle.const_eval.specs.Evaluating.{by_table, some_value}
use Rattle.typed_trees.specs.Leaves.{variable, shown, numbered}

-- names with the same bytes are one
pub same_bytes : (m n : Name) → bytes_eq m n ≡ true → m ≡ n
same_bytes m n e = (subst (λ b. Decides b (m ≡ n)) e (bytes_eq-Decides m n)).0 refl

-- each name has its own bytes
pub own_bytes : (n : Name) → bytes_eq n n ≡ true
own_bytes n = (bytes_eq-Decides n n).1 refl

-- it is the same which of two names is compared with the other
pub bytes_sym : (m n : Name) → bytes_eq m n ≡ bytes_eq n m
bytes_sym m n = elim (cases_Bool (bytes_eq m n)) [
  | inl same ↦ same ∙ sym (ap (λ z. bytes_eq n z) (same_bytes m n same) ∙ own_bytes n)
  | inr other ↦ elim (cases_Bool (bytes_eq n m)) [
    | inl same ↦ ap (λ z. bytes_eq m z) (same_bytes n m same) ∙ (own_bytes m ∙ sym same)
    | inr too ↦ other ∙ sym too
  ]
]

-- what a list has at a key, with one entry more
pub lookup-push : {X : Type 0} (test : Name → Bool) (xs : List (Name × X)) (e : Name × X)
    → lookup test (xs ++ e ∷ []) ≡ option_or (lookup test xs) (cond (test e.0) (Some e.1) None)
lookup-push test [] e = refl
lookup-push {X} test (x ∷ xs) e =
    ap (cond (test x.0) (Some x.1)) (lookup-push test xs e) ∙ either (test x.0) (lookup test xs) (cond (test e.0) (Some e.1) None)
  where
    either : (b : Bool) (o w : Option X) → cond b (Some x.1) (option_or o w) ≡ option_or (cond b (Some x.1) o) w
    either true o w = refl
    either false o w = refl

or_none : {X : Type 0} (o : Option X) → option_or o None ≡ o
or_none (Some x) = refl
or_none None = refl

module _ (name : Name) (tree : Typed) (trees : List (Name × Typed)) (old : Name → Option Typed) (is : (n : Name) → old n ≡ lookup (bytes_eq n) trees) where
  listed : (n : Name) → lookup (bytes_eq n) (trees ++ (name, tree) ∷ []) ≡ option_or (old n) (cond (bytes_eq n name) (Some tree) None)
  listed n = lookup-push (bytes_eq n) trees (name, tree) ∙ ap (λ o. option_or o (cond (bytes_eq n name) (Some tree) None)) (sym (is n))

  -- a name that a table has already stays as it is
  pub tree-kept : (y : Typed) → old name ≡ Some y → (n : Name) → old n ≡ lookup (bytes_eq n) (trees ++ (name, tree) ∷ [])
  tree-kept y has n = sym (listed n ∙ stays)
    where
      stays : option_or (old n) (cond (bytes_eq n name) (Some tree) None) ≡ old n
      stays = elim (cases_Bool (bytes_eq n name)) [
        | inl same ↦
            let there : old n ≡ Some y = ap old (same_bytes n name same) ∙ has in
            ap (λ o. option_or o (cond (bytes_eq n name) (Some tree) None)) there ∙ sym there
        | inr other ↦ ap (λ b. option_or (old n) (cond b (Some tree) None)) other ∙ or_none (old n)
      ]

  -- a name that a table lacks gets its tree
  pub tree-added : (new : Name → Option Typed) → old name ≡ None → ((n : Name) → new n ≡ cond (bytes_eq name n) (Some tree) (old n))
      → (n : Name) → new n ≡ lookup (bytes_eq n) (trees ++ (name, tree) ∷ [])
  tree-added new lacks put n = put n ∙ (puts ∙ sym (listed n))
    where
      puts : cond (bytes_eq name n) (Some tree) (old n) ≡ option_or (old n) (cond (bytes_eq n name) (Some tree) None)
      puts = elim (cases_Bool (bytes_eq n name)) [
        | inl same ↦
            let there : old n ≡ None = ap old (same_bytes n name same) ∙ lacks in
            ap (λ b. cond b (Some tree) (old n)) (bytes_sym name n ∙ same)
            ∙ sym ((λ i. option_or (there i) (cond (same i) (Some tree) None)))
        | inr other ↦
            ap (λ b. cond b (Some tree) (old n)) (bytes_sym name n ∙ other)
            ∙ sym (ap (λ b. option_or (old n) (cond b (Some tree) None)) other ∙ or_none (old n))
      ]

enumerate_from-push : {X : Type 0} (n : ℕ) (xs : List X) (x : X) → enumerate_from n (xs ++ x ∷ []) ≡ enumerate_from n xs ++ (n + length xs, x) ∷ []
enumerate_from-push n [] x = ap (λ k. (k, x) ∷ []) (let e : n ≡ n + 0 = omega arith in e)
enumerate_from-push n (y ∷ xs) x =
    ap (λ rest. (n, y) ∷ rest) (enumerate_from-push (n + 1) xs x
    ∙ ap (λ k. enumerate_from (n + 1) xs ++ (k, x) ∷ []) (let e : n + 1 + length xs ≡ n + length (y ∷ xs) = omega arith in e))

-- one variable more is numbered by how many stand before it
pub numbered-push : (vars : List (Name × Sort)) (v : Name × Sort) → numbered (vars ++ v ∷ []) ≡ numbered vars ++ (v.0, variable v.1 (shown (length vars))) ∷ []
numbered-push vars v =
    ap (map (λ w. (w.1.0, variable w.1.1 (shown w.0)))) (enumerate_from-push 0 vars v
    ∙ ap (λ k. enumerate_from 0 vars ++ (k, v) ∷ []) (let e : 0 + length vars ≡ length vars = omega arith in e))
    ∙ map-append (λ w. (w.1.0, variable w.1.1 (shown w.0))) (enumerate_from 0 vars) ((length vars, v) ∷ [])

-- what a look-up that is none says of the table, and one that is some
pub copied-None : (found : Option (Bor Typed)) (b : Bool) → is_some found ≡ not b → b ≡ true → option_copied found ≡ None
copied-None None b is holds = refl
copied-None (Some x) b is holds = absurd (let wrong : true ≡ false = is ∙ ap not holds in let never : ⊥ = cc in never)

pub copied-Some : (found : Option (Bor Typed)) (b : Bool) → is_some found ≡ not b → b ≡ false → (y : Typed) × (option_copied found ≡ Some y)
copied-Some (Some x) b is fails = (x.now, refl)
copied-Some None b is fails = absurd (let wrong : false ≡ true = is ∙ ap not fails in let never : ⊥ = cc in never)

-- one name more has its value
pub valued-more : (front more : List Name) (m : Name) (old new : Name → Option Valued) (want : Name → Valued) (found : Valued) → more ≡ front ++ (m ∷ [])
    → ((n : Name) → Contains front n → by_table old n ≡ want n) → found ≡ want m
    → ((n : Name) → new n ≡ cond (bytes_eq m n) (Some found) (old n)) → (n : Name) → Contains more n → by_table new n ≡ want n
valued-more front more m old new want found is so_far here put n has = elim (cases_Bool (bytes_eq m n)) [
  | inl same ↦
      ap (λ o. unwrap_or o some_value) (put n ∙ ap (λ b. cond b (Some found) (old n)) same) ∙ (here ∙ ap want (same_bytes m n same))
  | inr other ↦
      ap (λ o. unwrap_or o some_value) (put n ∙ ap (λ b. cond b (Some found) (old n)) other)
      ∙ elim (Contains-push_cases front m n (subst (λ (names : List Name). Contains names n) is has)) [
        | inl before ↦ so_far n before
        | inr last ↦ absurd (let both : true ≡ false = sym (ap (bytes_eq m) (sym last) ∙ own_bytes m) ∙ other in let never : ⊥ = cc in never)
      ]
]
