-- The end of a chain.
use Rattle.std.proofs.Common.{◌≡◌, ℕ, ◌≤◌, ℤ, List, [], ◌∷◌, length, map, drop, Ok, refl, sym, ap, ◌∙◌}
use Rattle.std.proofs.lemmas.List.{drop_all}
use Rattle.chain_model.specs.declared.values.Value.{Value}
use Rattle.chain_model.specs.declared.expressions.Op.{Op}
use Rattle.chain_model.specs.Values.{Valued, links_value}
use Rattle.guard_code.specs.declared.nodes.Node.{Node}
use Rattle.guard_code.specs.Wholes.{WholeResult, stored_of, wholes_after}

-- where no operator is left the value is that of the whole
pub links_value-end : (a : Value) (parts : List Valued) → links_value a parts [] ≡ Ok a
links_value-end a [] = refl
links_value-end a (part ∷ parts) = refl

wholes_after-end : (a : ℤ) (parts : List WholeResult) → wholes_after a parts [] ≡ Ok a
wholes_after-end a [] = refl
wholes_after-end a (part ∷ parts) = refl

-- where no operator is left a chain of whole numbers is what it has come to
pub wholes_done : (a : ℤ) (parts : List WholeResult) (ops : List Op) (whole : WholeResult) → ops ≡ [] → wholes_after a parts ops ≡ whole → Ok a ≡ whole
wholes_done a parts ops whole none is = sym (ap (wholes_after a parts) none ∙ wholes_after-end a parts) ∙ is

-- and so it is where no part is left
pub wholes_past : (f : Node → Valued) (parts : List Node) (k : ℕ) (a : ℤ) (ops : List Op) (whole : WholeResult) → length parts ≤ k
    → wholes_after a (map stored_of (map f (drop k parts))) ops ≡ whole → Ok a ≡ whole
wholes_past f parts k a ops whole le is = sym (ap (λ (ps : List Node). wholes_after a (map stored_of (map f ps)) ops) (drop_all k parts le)) ∙ is
