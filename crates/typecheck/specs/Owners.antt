-- What a table has of the owners of variables.
use Rattle.std.specs.Prelude.{◌≡◌, ℕ, List, Option, bytes_eq}
use Rattle.std.specs.Map.{lookup}
use Rattle.indexmap.specs.IndexMap.{IndexMap, get}
use Rattle.prism_names.specs.First.{Name}

-- a table has the first of these owners of each name
abbrev pub AreOwners : {S : Type 0} → IndexMap Name (Option ℕ) S → List (Name × Option ℕ) → Type 0
AreOwners table owners = (name : Name) → get bytes_eq table name ≡ lookup (bytes_eq name) owners
