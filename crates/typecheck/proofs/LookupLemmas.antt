-- The variable of a name: its place, its sort, its owner and its number.
use Rattle.std.proofs.Common.{◌≡◌, ℕ, suc, ◌+◌, List, [], ◌∷◌, Option, Bool, true, false, not, length, map, cond, bytes_eq, refl, sym, ap, ◌∙◌, unwrap_or, arith, nat_lt}
use Rattle.std.specs.Prelude.{None, Some, position, slice_get}
use mathlib.Core.Logic.{inl, inr}
use Rattle.std.specs.List.{enumerate_from, position_or_len}
use Rattle.std.specs.Map.{lookup}
use Rattle.std.proofs.lemmas.Bool.{cases_Bool}
use Rattle.chain_model.specs.declared.values.Sort.{Sort}
use Rattle.chain_model.specs.declared.expressions.Form.{Form, roll-Form}
use Rattle.chain_model.specs.declared.expressions.Form.TheVariants as form
use Rattle.chain_model.specs.declared.expressions.Form.TheOpen as node
use Rattle.chain_model.specs.declared.expressions.Form.TheFolds.{fold-roll-Form, fold-roll-Typed}
use Rattle.chain_model.specs.declared.expressions.Typed.{Typed}
use Rattle.prism_syntax.specs.declared.models.Variable.{Variable}
use Rattle.prism_names.specs.First.{Name}
use Rattle.typed_trees.specs.Leaves.{variable, shown, variable_leaf}
use Rattle.typed_trees.proofs.TableLemmas.{same_bytes}
use Rattle.typecheck.specs.Declarations.{declared_sort}
use Rattle.typecheck.specs.Parts.{number_step, number_of}
use Rattle.typecheck.specs.Writes.{owner_in}

-- the number of a variable's tree
pub number-of-variable : (s : Sort) (n : ℕ) → number_of (variable s n) ≡ Some n
number-of-variable s n =
    ap (λ (f : Form). number_of (record { sort = s; form = f })) (sym (form.rolls-Var n))
    ∙ (fold-roll-Typed (Sort → Option ℕ) (Option ℕ) number_step (λ t. t.form t.sort) (record { sort = s; form = roll-Form (node.Var n) })
    ∙ ap (λ g. g s) (fold-roll-Form (Sort → Option ℕ) (Option ℕ) number_step (λ t. t.form t.sort) (node.Var n)))

-- the first that passes stands here
position-here : {X : Type 0} (p : X → Bool) (x : X) (xs : List X) → p x ≡ true → position p (x ∷ xs) ≡ Some 0
position-here {X} p x xs holds =
    let at : position_or_len p (x ∷ xs) ≡ 0 = ap (λ b. cond (not b) (1 + position_or_len p xs) 0) holds in
    (λ i. cond (nat_lt (at i) (length (x ∷ xs))) (Some (at i)) None) ∙ ap (λ b. cond b (Some 0) None) (below (length xs))
  where
    below : (n : ℕ) → nat_lt 0 (suc n) ≡ true
    below n = grind arith

-- or after it
position-later : {X : Type 0} (p : X → Bool) (x : X) (xs : List X) (k : ℕ) → p x ≡ false → position p xs ≡ Some k → position p (x ∷ xs) ≡ Some (suc k)
position-later {X} p x xs k fails is =
    let at : position_or_len p (x ∷ xs) ≡ 1 + position_or_len p xs = ap (λ b. cond (not b) (1 + position_or_len p xs) 0) fails in
    (λ i. cond (nat_lt (at i) (length (x ∷ xs))) (Some (at i)) None) ∙ more (position_or_len p xs) (length xs) is
  where
    more : (n l : ℕ) → cond (nat_lt n l) (Some n) None ≡ Some k → cond (nat_lt (1 + n) (suc l)) (Some (1 + n)) None ≡ Some (suc k)
    more n l found = elim (cases_Bool (nat_lt n l)) [
      | inl lt ↦
          let same : n ≡ k = ap (λ o. unwrap_or o k) (sym (ap (λ b. cond b (Some n) None) lt) ∙ found) in
          let shifted : nat_lt (1 + n) (suc l) ≡ true = grind (arith, lt) in
          ap (λ b. cond b (Some (1 + n)) None) shifted ∙ ap Some (let e : 1 + n ≡ suc k = omega (arith, same) in e)
      | inr past ↦ absurd (let no : None ≡ Some k = sym (ap (λ b. cond b (Some n) None) past) ∙ found in let never : ⊥ = cc in never)
    ]

-- a variable of a text
abbrev Declared : Type 0
Declared = Option ℕ × Variable

-- the names of variables with their sorts, and their trees from a number on
abbrev sorts_of : List Declared → List (Name × Sort)
sorts_of vars = map (λ v. (v.1.name, declared_sort v.1)) vars

abbrev trees_from : ℕ → List Declared → List (Name × Typed)
trees_from from vars = map (λ v. (v.1.0, variable v.1.1 (shown v.0))) (enumerate_from from (sorts_of vars))

-- the first variable of a name among these, numbered from here on
pub record FoundFrom (name : Name) (from : ℕ) (vars : List Declared) : Type 0 where
  pub place : ℕ
  pub var : Declared
  pub there : slice_get vars place ≡ Some var
  pub named : var.1.name ≡ name
  pub tree : lookup (bytes_eq name) (trees_from from vars) ≡ Some (variable (declared_sort var.1) (shown (from + place)))
  pub owner : owner_in vars name ≡ Some var.0
  pub placed : position (λ v. bytes_eq name v.0) (sorts_of vars) ≡ Some place

-- a name that is a variable's has a first one
found-from : (name : Name) (from : ℕ) (vars : List Declared) (t : Typed) → lookup (bytes_eq name) (trees_from from vars) ≡ Some t → FoundFrom name from vars
found-from name from [] t is = absurd (let never : ⊥ = cc in never)
found-from name from (v ∷ vars) t is = elim (cases_Bool (bytes_eq name v.1.name)) [
  | inl holds ↦
      record {
        place = 0;
        var = v;
        there = refl;
        named = sym (same_bytes name v.1.name holds);
        tree = ap (λ b. cond b (Some (variable (declared_sort v.1) (shown from))) (lookup (bytes_eq name) (trees_from (from + 1) vars))) holds
            ∙ ap (λ k. Some (variable (declared_sort v.1) (shown k))) (let e : from ≡ from + 0 = omega arith in e);
        owner = ap (λ b. cond b (Some v.0) (owner_in vars name)) holds;
        placed = position-here (λ w. bytes_eq name w.0) (v.1.name, declared_sort v.1) (sorts_of vars) holds;
      }
  | inr fails ↦
      let rest = found-from name (from + 1) vars t
      (sym (ap (λ b. cond b (Some (variable (declared_sort v.1) (shown from))) (lookup (bytes_eq name) (trees_from (from + 1) vars))) fails) ∙ is) in
      record {
        place = suc rest.place;
        var = rest.var;
        there = rest.there;
        named = rest.named;
        tree = ap (λ b. cond b (Some (variable (declared_sort v.1) (shown from))) (lookup (bytes_eq name) (trees_from (from + 1) vars))) fails
            ∙ (rest.tree ∙ ap (λ k. Some (variable (declared_sort rest.var.1) (shown k))) (let e : from + 1 + rest.place ≡ from + suc rest.place = omega arith in e));
        owner = ap (λ b. cond b (Some v.0) (owner_in vars name)) fails ∙ rest.owner;
        placed = position-later (λ w. bytes_eq name w.0) (v.1.name, declared_sort v.1) (sorts_of vars) rest.place fails rest.placed;
      }
]

-- the variable of a name
pub record Found (name : Name) (vars : List Declared) : Type 0 where
  pub place : ℕ
  pub var : Declared
  pub there : slice_get vars place ≡ Some var
  pub named : var.1.name ≡ name
  pub tree : variable_leaf (sorts_of vars) name ≡ Some (variable (declared_sort var.1) (shown place))
  pub owner : owner_in vars name ≡ Some var.0
  pub placed : position (λ v. bytes_eq name v.0) (sorts_of vars) ≡ Some place

pub found : (name : Name) (vars : List Declared) (t : Typed) → variable_leaf (sorts_of vars) name ≡ Some t → Found name vars
found name vars t is =
    let all = found-from name 0 vars t is in
    record {
      place = all.place;
      var = all.var;
      there = all.there;
      named = all.named;
      tree = all.tree ∙ ap (λ k. Some (variable (declared_sort all.var.1) (shown k))) (let e : 0 + all.place ≡ all.place = omega arith in e);
      owner = all.owner;
      placed = all.placed;
    }
