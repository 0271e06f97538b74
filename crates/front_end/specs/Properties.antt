-- What a property's text says over a model, stage by stage: its tokens, its tree, the tree without formulas, its path formula
-- and what it claims. The first stage that refuses it refuses the text.
use Rattle.std.specs.Prelude.{◌≡◌, ℕ, List, Result, Ok, Err}
use Rattle.chain_model.specs.declared.job.Path.{Path}
use Rattle.chain_model.specs.declared.job.Claim.{Claim}
use Rattle.chain_model.specs.Limits.{most_property_bytes}
use Rattle.prism_syntax.specs.declared.tokens.Token.{Token}
use Rattle.prism_syntax.specs.declared.properties.Property.{Property}
use Rattle.prism_parser.specs.declared.fault.ParseFault.{ParseFault}
use Rattle.module_expand.specs.declared.fault.ExpandFault.TheVariants.{TooLarge}
use Rattle.module_expand.specs.Expanded.{stands_for}
use Rattle.module_expand.specs.Listed.{AreTooLarge}
use Rattle.module_expand.specs.Properties.{flat_property, property_exprs}
use Rattle.typecheck.specs.declared.fault.TypeFault.{TypeFault}
use Rattle.typecheck.specs.Paths.{IsPathOf}
use Rattle.typecheck.specs.PathRefusals.{IsRefusedProperty}
use Rattle.smc_report.specs.declared.reason.Reason.{Reason}
use Rattle.smc_report.specs.declared.reason.Reason.TheVariants as reason
use Rattle.smc_report.specs.declared.reason.Subject.TheVariants as subject
use Rattle.front_end.specs.declared.models.Model.{Model}
use Rattle.front_end.specs.Stops.{IsAccepted}
use Rattle.front_end.specs.Stages.{CutTells, ParsesProperty}

-- a property's text has this tree
pub record HasTree (text : List ℕ) (tree : Property) : Type 0 where
  pub tokens : List Token
  pub cut : CutTells subject.Property most_property_bytes text (Ok tokens)
  pub parsed : ParsesProperty tokens (Ok tree)

-- a property in whose state formulas a model's formulas are written out
abbrev pub flat_in : Model → Property → Property
flat_in model tree = flat_property (stands_for model.flat.formulas) tree

-- over a model a property's text has this tree without formulas, which is within the limits
pub record HasFlat (text : List ℕ) (model : Model) (flat : Property) : Type 0 where
  pub tree : Property
  pub read : HasTree text tree
  pub written_out : flat ≡ flat_in model tree
  pub within : ¬ AreTooLarge (property_exprs flat)

-- over a model a property's text has this path formula and this claim
pub record IsQuestion (text : List ℕ) (model : Model) (question : Path × Claim) : Type 0 where
  pub flat : Property
  pub read : HasFlat text model flat
  pub path : IsPathOf model.consts model.chain flat question.0 question.1
  pub accepted : IsAccepted (IsRefusedProperty model.consts model.chain flat)

-- what a property's text tells over a model: a path formula and a claim, or the reason to refuse it, one for each stage
pub data PropertyTells (text : List ℕ) (model : Model) : Result (Path × Claim) Reason → Type 0 where
  is_not_cut : {why : Reason} → CutTells subject.Property most_property_bytes text (Err why) → PropertyTells text model (Err why)
  is_not_parsed : {tokens : List Token} {fault : ParseFault} → CutTells subject.Property most_property_bytes text (Ok tokens) → ParsesProperty tokens (Err fault)
      → PropertyTells text model (Err (reason.Parse subject.Property fault))
  is_too_large : {tree : Property} → HasTree text tree → AreTooLarge (property_exprs (flat_in model tree))
      → PropertyTells text model (Err (reason.Expand subject.Property TooLarge))
  has_no_type : {flat : Property} {fault : TypeFault} → HasFlat text model flat → IsRefusedProperty model.consts model.chain flat fault
      → PropertyTells text model (Err (reason.Type subject.Property fault))
  is_question : {question : Path × Claim} → IsQuestion text model question → PropertyTells text model (Ok question)
