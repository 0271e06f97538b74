use Rattle.std.proofs.Common.{[], refl}
use Rattle.prop_parser.proofs.DefiniteLineLemmas.{property_definite}
use Rattle.prop_parser.proofs.laws.one_property.Goals as goal

pub returns : goal.returns
returns c tokens x y first second = (property_definite.agrees tokens tokens [] [] x y first second tt tt refl).1
