-- Reading a printed form back.
use Rattle.std.specs.Prelude.{ℕ, List}
use Rattle.prism_syntax.specs.declared.tokens.Token.{Token}
use Rattle.prism_syntax.specs.declared.models.ModelText.{ModelText}
use Rattle.prism_syntax.specs.declared.models.FlatText.{FlatText}
use Rattle.prism_syntax.specs.Tokens.{AreTokensOf, kinds}
use Rattle.prism_syntax.specs.Models.{IsModel}
use Rattle.prism_parser.specs.Models.{HasLongModel}
use Rattle.module_expand.specs.declared.fault.ExpandFault.{ExpandFault}
use Rattle.module_expand.specs.Flat.{IsFlat}
use Rattle.module_expand.specs.Refusals.{IsRefused}
use Rattle.prism_print.specs.Printed.{printed}

-- a flat text comes from a text: that is a model which expansion does not refuse, and this is its flat text
pub record ComesFrom (text : List ℕ) (flat : FlatText) : Type 0 where
  pub tokens : List Token
  pub cut : AreTokensOf text tokens
  pub model : ModelText
  pub tree : IsModel (kinds tokens) model
  pub accepted : (fault : ExpandFault) → ¬ IsRefused model fault
  pub same : IsFlat model flat

-- a flat text as a model
abbrev pub as_model : FlatText → ModelText
as_model flat = record {
  consts = flat.consts;
  globals = flat.globals;
  formulas = flat.formulas;
  modules = flat.modules;
  labels = flat.labels;
}

-- what is printed reads back: it is cut into tokens, their tree is the flat text itself, which expansion does not refuse,
-- and so is the flat text of that
pub record ReadsBack (flat : FlatText) : Type 0 where
  pub tokens : List Token
  pub cut : AreTokensOf (printed flat) tokens
  pub tree : IsModel (kinds tokens) (as_model flat)
  pub accepted : (fault : ExpandFault) → ¬ IsRefused (as_model flat) fault
  pub same : IsFlat (as_model flat) flat

-- the printed form of each flat text that comes from a text reads back
abbrev pub AllReadBack : Type 0
AllReadBack = (text : List ℕ) (flat : FlatText) → ComesFrom text flat → ReadsBack flat

-- a flat text has no chain of two arrows or more, which is refused where it is read, if its model has none
abbrev pub AllStayShort : Type 0
AllStayShort = (text : List ℕ) (flat : FlatText) (from : ComesFrom text flat) → ¬ HasLongModel from.model
    → ¬ HasLongModel (as_model flat)
