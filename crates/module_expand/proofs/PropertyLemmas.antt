-- Properties in which formulas are replaced: how they are made, that they are within the limits, and that they stay
-- well formed.
use Rattle.std.proofs.Common.{◌≡◌, ◌<◌, List, Option, find, bytes_eq, sym, ap, ◌∙◌, subst, refl}
use Rattle.std.specs.Prelude.{None, Some, All, ◌⊎◌}
use Rattle.std.specs.Option.{option_map}
use Rattle.prism_syntax.specs.declared.labels.Labels.TheVariants.{Allowed}
use Rattle.prism_syntax.specs.declared.expressions.Expr.{Expr}
use Rattle.prism_syntax.specs.declared.expressions.Expr.TheVariants as e
use Rattle.prism_syntax.specs.declared.models.Named.{Named}
use Rattle.prism_syntax.specs.declared.properties.PathText.{PathText}
use Rattle.prism_syntax.specs.declared.properties.PathText.TheVariants as path
use Rattle.prism_syntax.specs.declared.properties.Property.{Property}
use Rattle.prism_syntax.specs.WellFormed.{IsFormed, IsFormedFormula, IsFormedPath, IsFormedProperty}
use Rattle.prism_names.specs.First.{Name}
use Rattle.module_expand.specs.Expanded.{stands_for}
use Rattle.module_expand.specs.declared.sizes.Size.{Size}
use Rattle.module_expand.specs.Listed.{AreTooLarge}
use Rattle.module_expand.specs.Properties.{flat_path, flat_property, property_exprs}
use Rattle.module_expand.specs.Sizes.{IsSize}
use Rattle.module_expand.proofs.FirstLemmas.{not_none, some_same}
use Rattle.module_expand.proofs.FormedLemmas.{StandForFormed, replaced-formed, allowed-formed}
use Rattle.module_expand.proofs.FlatFormedLemmas.{found_holds}
use Rattle.module_expand.proofs.TotalLemmas.{large_size}

-- what the names of well-formed formulas stand for is well formed
bodies_formed : (formulas : List Named) → All IsFormedFormula formulas → StandForFormed Allowed (stands_for formulas)
bodies_formed formulas all n t is = at (find (λ f. bytes_eq f.name n) formulas)
    (λ f found. found_holds IsFormedFormula (λ f. bytes_eq f.name n) formulas f all found) is
  where
    at : (o : Option Named) → ((f : Named) → o ≡ Some f → IsFormedFormula f) → option_map (λ f. e.Paren f.body) o
        ≡ Some t → IsFormed Allowed t
    at None formed h = absurd (not_none t (sym h))
    at (Some f) formed h = subst (IsFormed Allowed) (some_same (e.Paren f.body) t h)
        (IsFormed.paren (allowed-formed (formed f refl).body))

path_formed : (by : Name → Option Expr) → StandForFormed Allowed by → (p : PathText) → IsFormedPath p
    → IsFormedPath (flat_path by p)
path_formed by trees (path.Next x) h = replaced-formed Allowed by trees h
path_formed by trees (path.Finally t x) h = (h.0, replaced-formed Allowed by trees h.1)
path_formed by trees (path.Globally t x) h = (h.0, replaced-formed Allowed by trees h.1)
path_formed by trees (path.Until x t y) h =
    (replaced-formed Allowed by trees h.0, h.1, replaced-formed Allowed by trees h.2)

pub property_formed : (formulas : List Named) → All IsFormedFormula formulas → (p : Property) → IsFormedProperty p
    → IsFormedProperty (flat_property (stands_for formulas) p)
property_formed formulas all p h = record {
  bound = h.bound;
  path = path_formed (stands_for formulas)
      (bodies_formed formulas all) p.path h.path;
}

-- a property made by a table of the trees that names stand for
pub property_made : (trees : Name → Option Expr) (slice formulas : List Named) (p made : Property) → slice ≡ formulas
    → ((n : Name) → trees n ≡ stands_for slice n)
    → made ≡ flat_property trees p → made ≡ flat_property (stands_for formulas) p
property_made trees slice formulas p made same all is = is ∙ ap (λ by. flat_property by p)
    (λ i n. (all n ∙ ap (λ fs. stands_for fs n) same) i)

-- a property that was measured is within the limits
pub property_within : (s : Size) (p made : Property) → ((65536 < s.nodes) ⊎ (64 < s.depth) → ⊥)
    → IsSize s (property_exprs p) → made ≡ p → ¬ AreTooLarge (property_exprs made)
property_within s p made small size is large =
    small (large_size s (property_exprs p) size (subst (λ q. AreTooLarge (property_exprs q)) is large))
