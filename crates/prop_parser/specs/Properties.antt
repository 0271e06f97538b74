-- When a tree of a property has a chain of two or more arrows.
use Rattle.prism_syntax.specs.declared.properties.Time.{Time}
use Rattle.prism_syntax.specs.declared.properties.Time.TheVariants.{Upto}
use Rattle.prism_syntax.specs.declared.properties.PathText.{PathText}
use Rattle.prism_syntax.specs.declared.properties.PathText.TheVariants as path
use Rattle.prism_syntax.specs.declared.properties.Property.{Property}
use Rattle.std.specs.Prelude.{◌⊎◌}
use Rattle.prism_limits.specs.Arrows.{HasLongChain}

-- a chain of a time has two or more arrows
abbrev pub HasLongTime : Time → Type 0
HasLongTime (Upto strict last) = HasLongChain last

-- a chain of a path formula has two or more arrows
abbrev pub HasLongPath : PathText → Type 0
HasLongPath (path.Next x) = HasLongChain x
HasLongPath (path.Finally t x) = HasLongTime t ⊎ HasLongChain x
HasLongPath (path.Globally t x) = HasLongTime t ⊎ HasLongChain x
HasLongPath (path.Until x t y) = HasLongChain x ⊎ (HasLongTime t ⊎ HasLongChain y)

-- a chain of a property has two or more arrows
abbrev pub HasLongProperty : Property → Type 0
HasLongProperty p = HasLongChain p.bound ⊎ HasLongPath p.path
