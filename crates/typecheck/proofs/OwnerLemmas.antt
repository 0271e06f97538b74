-- A table of owners, as one owner more is listed.
use Rattle.std.proofs.Common.{Bor, is_some, not, option_copied, ◌≡◌, ℕ, List, [], ◌∷◌, ◌++◌, Option, Bool, true, false, cond, bytes_eq, refl, sym, ap, ◌∙◌}
use Rattle.std.specs.Prelude.{None, Some}
use mathlib.Core.Logic.{inl, inr}
use Rattle.std.specs.Map.{lookup}
use Rattle.std.specs.Option.{option_or}
use Rattle.std.proofs.lemmas.Bool.{cases_Bool}
use Rattle.prism_names.specs.First.{Name}
use Rattle.typed_trees.proofs.TableLemmas.{same_bytes, bytes_sym, lookup-push}
use Rattle.typecheck.proofs.OverLemmas.{or-nothing}

module _ (name : Name) (owner : Option ℕ) (owners : List (Name × Option ℕ)) (old : Name → Option (Option ℕ)) (is : (n : Name) → old n ≡ lookup (bytes_eq n) owners) where
  listed : (n : Name) → lookup (bytes_eq n) (owners ++ (name, owner) ∷ []) ≡ option_or (old n) (cond (bytes_eq n name) (Some owner) None)
  listed n = lookup-push (bytes_eq n) owners (name, owner) ∙ ap (λ o. option_or o (cond (bytes_eq n name) (Some owner) None)) (sym (is n))

  -- a name that a table has already stays as it is
  pub owner-kept : (y : Option ℕ) → old name ≡ Some y → (n : Name) → old n ≡ lookup (bytes_eq n) (owners ++ (name, owner) ∷ [])
  owner-kept y has n = sym (listed n ∙ stays)
    where
      stays : option_or (old n) (cond (bytes_eq n name) (Some owner) None) ≡ old n
      stays = elim (cases_Bool (bytes_eq n name)) [
        | inl same ↦
            let there : old n ≡ Some y = ap old (same_bytes n name same) ∙ has in
            ap (λ o. option_or o (cond (bytes_eq n name) (Some owner) None)) there ∙ sym there
        | inr other ↦ ap (λ b. option_or (old n) (cond b (Some owner) None)) other ∙ or-nothing (old n) None refl
      ]

  -- a name that a table lacks gets its owner
  pub owner-added : (new : Name → Option (Option ℕ)) → old name ≡ None → ((n : Name) → new n ≡ cond (bytes_eq name n) (Some owner) (old n))
      → (n : Name) → new n ≡ lookup (bytes_eq n) (owners ++ (name, owner) ∷ [])
  owner-added new lacks put n = put n ∙ (puts ∙ sym (listed n))
    where
      puts : cond (bytes_eq name n) (Some owner) (old n) ≡ option_or (old n) (cond (bytes_eq n name) (Some owner) None)
      puts = elim (cases_Bool (bytes_eq n name)) [
        | inl same ↦
            let there : old n ≡ None = ap old (same_bytes n name same) ∙ lacks in
            ap (λ b. cond b (Some owner) (old n)) (bytes_sym name n ∙ same)
            ∙ sym ((λ i. option_or (there i) (cond (same i) (Some owner) None)))
        | inr other ↦
            ap (λ b. cond b (Some owner) (old n)) (bytes_sym name n ∙ other)
            ∙ sym (ap (λ b. option_or (old n) (cond b (Some owner) None)) other ∙ or-nothing (old n) None refl)
      ]

-- what a look-up that is none says of the table, and one that is some
pub copied-None : (found : Option (Bor (Option ℕ))) (b : Bool) → is_some found ≡ not b → b ≡ true → option_copied found ≡ None
copied-None None b is holds = refl
copied-None (Some x) b is holds = absurd (let wrong : true ≡ false = is ∙ ap not holds in let never : ⊥ = cc in never)

pub copied-Some : (found : Option (Bor (Option ℕ))) (b : Bool) → is_some found ≡ not b → b ≡ false → (y : Option ℕ) × (option_copied found ≡ Some y)
copied-Some (Some x) b is fails = (x.now, refl)
copied-Some None b is fails = absurd (let wrong : false ≡ true = is ∙ ap not fails in let never : ⊥ = cc in never)
