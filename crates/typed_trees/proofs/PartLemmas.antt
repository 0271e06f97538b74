-- The trees of the first parts of a list, and those of all; the sort of a level at its end.
use Rattle.std.proofs.Common.{◌≡◌, List, [], ◌∷◌, ◌++◌, Option, refl, sym, ap, ◌∙◌, subst, append_assoc}
use Rattle.std.specs.Prelude.{None, Some}
use Rattle.chain_model.specs.declared.expressions.Typed.{Typed}
use Rattle.chain_model.specs.declared.values.Sort.{Sort}
use Rattle.chain_model.specs.Sorts.{◌>>=◌, links_sort}
use Rattle.typed_trees.specs.Trees.{all_trees}

-- these trees, and those of the parts that are left
abbrev pub all_with : List Typed → List (Option Typed) → Option (List Typed)
all_with trees parts = all_trees parts >>= λ rest. Some (trees ++ rest)

pub all_with-none : (parts : List (Option Typed)) → all_with [] parts ≡ all_trees parts
all_with-none parts = elim (all_trees parts) as (λ o. (o >>= λ rest. Some ([] ++ rest)) ≡ o) [ None ↦ refl | Some trees ↦ refl ]

pub all_with-more : (trees : List Typed) (tree : Typed) (part : Option Typed) (parts : List (Option Typed)) → part ≡ Some tree
    → all_with (trees ++ tree ∷ []) parts ≡ all_with trees (part ∷ parts)
all_with-more trees tree part parts is =
    subst (λ p. all_with (trees ++ tree ∷ []) parts ≡ all_with trees (p ∷ parts)) (sym is)
    (elim (all_trees parts) as (λ o. (o >>= λ rest. Some ((trees ++ tree ∷ []) ++ rest)) ≡ ((o >>= λ rest. Some (tree ∷ rest)) >>= λ rest. Some (trees ++ rest)))
    [ None ↦ refl | Some rest ↦ ap Some (append_assoc trees (tree ∷ []) rest) ])

-- where no operator is left the sort is that of the whole
pub links_sort-done : (a : Sort) (parts : List (Option Sort)) → links_sort a parts [] ≡ Some a
links_sort-done a [] = refl
links_sort-done a (part ∷ parts) = refl
