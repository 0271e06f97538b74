-- What a model's text says, stage by stage: its tokens, its tree, its flat text, the values of its constants, its chain. The
-- first stage that refuses it refuses the text.
use Rattle.std.specs.Prelude.{◌≡◌, ℕ, List, Result, Ok, Err}
use Rattle.chain_model.specs.declared.constants.Given.{Given}
use Rattle.chain_model.specs.Limits.{most_model_bytes}
use Rattle.prism_syntax.specs.declared.tokens.Token.{Token}
use Rattle.prism_syntax.specs.declared.models.ModelText.{ModelText}
use Rattle.prism_syntax.specs.declared.models.FlatText.{FlatText}
use Rattle.prism_names.specs.First.{Name}
use Rattle.prism_parser.specs.declared.fault.ParseFault.{ParseFault}
use Rattle.module_expand.specs.declared.fault.ExpandFault.{ExpandFault}
use Rattle.module_expand.specs.Flat.{IsFlat}
use Rattle.module_expand.specs.Refusals as expanding
use Rattle.const_eval.specs.declared.consts.Constant.{Constant}
use Rattle.const_eval.specs.declared.fault.ConstFault.{ConstFault}
use Rattle.const_eval.specs.Constants.{AreConsts, given_to}
use Rattle.const_eval.specs.Refusals as constants
use Rattle.typecheck.specs.declared.fault.TypeFault.{TypeFault}
use Rattle.typecheck.specs.Chains.{IsChainOf}
use Rattle.typecheck.specs.ModelRefusals as typing
use Rattle.smc_report.specs.declared.reason.Reason.{Reason}
use Rattle.smc_report.specs.declared.reason.Reason.TheVariants as reason
use Rattle.smc_report.specs.declared.reason.Subject.TheVariants as subject
use Rattle.front_end.specs.declared.models.Model.{Model}
use Rattle.front_end.specs.Stops.{IsAccepted}
use Rattle.front_end.specs.Stages.{CutTells, ParsesModel}

-- a model's text has this tree
pub record HasTree (text : List ℕ) (tree : ModelText) : Type 0 where
  pub tokens : List Token
  pub cut : CutTells subject.Model most_model_bytes text (Ok tokens)
  pub parsed : ParsesModel tokens (Ok tree)

-- a model's text has this flat text, in which its formulas and renamed modules are written out
pub record HasFlat (text : List ℕ) (flat : FlatText) : Type 0 where
  pub tree : ModelText
  pub read : HasTree text tree
  pub written_out : IsFlat tree flat
  pub accepted : IsAccepted (expanding.IsRefused tree)

-- with these given constants the constants of a flat text have these values
pub record AreValues (flat : FlatText) (given : List Given) (consts : List (Name × Constant)) : Type 0 where
  pub values : AreConsts flat.consts (given_to given) consts
  pub accepted : IsAccepted (constants.IsRefused flat.consts given)

-- with these given constants a flat text is this model: it has the values of its constants, and its chain
pub record IsModelOfFlat (flat : FlatText) (given : List Given) (model : Model) : Type 0 where
  pub same : model.flat ≡ flat
  pub consts : AreValues flat given model.consts
  pub chain : IsChainOf flat model.consts model.chain
  pub accepted : IsAccepted (typing.IsRefused flat model.consts)

-- with these given constants a flat text is refused: its constants have no values, or with their values it has no chain
pub data RefusesFlat (flat : FlatText) (given : List Given) : Reason → Type 0 where
  has_no_values : {fault : ConstFault} → constants.IsRefused flat.consts given fault → RefusesFlat flat given (reason.Const fault)
  has_no_type : {consts : List (Name × Constant)} {fault : TypeFault} → AreValues flat given consts → typing.IsRefused flat consts fault
      → RefusesFlat flat given (reason.Type subject.Model fault)

-- with these given constants a model's text is this model
pub record IsModelOf (text : List ℕ) (given : List Given) (model : Model) : Type 0 where
  pub flat : FlatText
  pub read : HasFlat text flat
  pub model_of : IsModelOfFlat flat given model

-- what a model's text tells by itself: a flat text, or the reason to refuse it, which is that of the first stage that refuses
pub data FlatTells (text : List ℕ) : Result FlatText Reason → Type 0 where
  is_not_cut : {why : Reason} → CutTells subject.Model most_model_bytes text (Err why) → FlatTells text (Err why)
  is_not_parsed : {tokens : List Token} {fault : ParseFault} → CutTells subject.Model most_model_bytes text (Ok tokens) → ParsesModel tokens (Err fault)
      → FlatTells text (Err (reason.Parse subject.Model fault))
  is_not_expanded : {tree : ModelText} {fault : ExpandFault} → HasTree text tree → expanding.IsRefused tree fault
      → FlatTells text (Err (reason.Expand subject.Model fault))
  is_flat : {flat : FlatText} → HasFlat text flat → FlatTells text (Ok flat)

-- what a model's text tells with these given constants: a model, or the reason to refuse it, which is that of the first stage
-- that refuses
pub data ModelTells (text : List ℕ) (given : List Given) : Result Model Reason → Type 0 where
  has_no_flat : {why : Reason} → FlatTells text (Err why) → ModelTells text given (Err why)
  is_not_typed : {flat : FlatText} {why : Reason} → HasFlat text flat → RefusesFlat flat given why → ModelTells text given (Err why)
  is_model : {model : Model} → IsModelOf text given model → ModelTells text given (Ok model)
