-- Declarations in groups: one alone, or all that a renaming makes.
use Rattle.std.specs.Prelude.{List, [], ◌∷◌}
use Rattle.std.specs.List.{filter_map}
use Rattle.module_expand.specs.declared.declarations.Group.{Group}
use Rattle.module_expand.specs.declared.declarations.Group.TheVariants.{One, Copies}
use Rattle.module_expand.specs.Renamed.{right_of}
use Rattle.module_expand.specs.Duplicates.{Declaration, values}

-- the declarations of a group: one, or values of the new names that pairs give to names
abbrev pub stated : Group → List Declaration
stated (One kind name) = (kind, name.now) ∷ []
stated (Copies source pairs) = values (filter_map (right_of pairs.now) source.now)
