-- The end of a chain.
use Rattle.std.proofs.Common.{◌≡◌, List, [], ◌∷◌, Ok, refl}
use Rattle.chain_model.specs.declared.values.Value.{Value}
use Rattle.chain_model.specs.Values.{Valued, links_value}

-- where no operator is left the value is that of the whole
pub links_value-end : (a : Value) (parts : List Valued) → links_value a parts [] ≡ Ok a
links_value-end a [] = refl
links_value-end a (part ∷ parts) = refl
