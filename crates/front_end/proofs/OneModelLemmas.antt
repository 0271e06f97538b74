-- A text of a model tells one thing at most.
use Rattle.std.proofs.Common.{◌≡◌, ℕ, List, refl, sym, ◌∙◌}
use Rattle.std.specs.Prelude.{Result, Ok, Err}
use Rattle.chain_model.specs.declared.chain.Chain.{Chain}
use Rattle.chain_model.specs.declared.constants.Given.{Given}
use Rattle.chain_model.specs.Limits.{most_model_bytes}
use Rattle.prism_syntax.specs.declared.tokens.Token.{Token}
use Rattle.prism_syntax.specs.declared.models.ModelText.{ModelText}
use Rattle.prism_syntax.specs.declared.models.FlatText.{FlatText}
use Rattle.prism_syntax.specs.Tokens.{kinds}
use Rattle.prism_syntax.specs.Models.{IsModel}
use Rattle.prism_names.specs.First.{Name}
use Rattle.prism_limits.specs.declared.kinds.TextKind.TheVariants as kind
use Rattle.prism_parser.specs.Models.{HasLongModel}
use Rattle.prism_parser.specs.Outcome.{IsNoText}
use Rattle.prism_parser.proofs.OutcomeLemmas.{one_answer}
use Rattle.prism_parser.proofs.ModelLemmas.{model_decided}
use Rattle.module_expand.specs.Flat.{IsFlat}
use Rattle.module_expand.specs.Refusals as expanding
use Rattle.module_expand.proofs.ExpandedLemmas.{one_flat}
use Rattle.module_expand.proofs.RefusalLemmas.{one_refusal as one_expansion_refusal}
use Rattle.const_eval.specs.declared.consts.Constant.{Constant}
use Rattle.const_eval.specs.Constants.{AreConsts, given_to}
use Rattle.const_eval.specs.Refusals as constants
use Rattle.const_eval.proofs.OneValueLemmas.{one_values}
use Rattle.const_eval.proofs.RefusalLemmas.{one_refusal as one_constant_refusal}
use Rattle.typecheck.specs.Chains.{IsChainOf}
use Rattle.typecheck.specs.ModelRefusals as typing
use Rattle.typecheck.proofs.OneChainLemmas.{chain-once}
use Rattle.typecheck.proofs.OneLemmas.{model-refused-once}
use Rattle.smc_report.specs.declared.reason.Reason.{Reason}
use Rattle.smc_report.specs.declared.reason.Reason.TheVariants as reason
use Rattle.smc_report.specs.declared.reason.Subject.TheVariants as subject
use Rattle.front_end.specs.declared.models.Model.{Model}
use Rattle.front_end.specs.Stages.{CutTells, ParsesModel}
use Rattle.front_end.specs.Models.{HasTree, HasFlat, RefusesFlat, FlatTells, ModelTells, has_no_values, has_no_type, is_not_cut, is_not_parsed, is_not_expanded, is_flat, has_no_flat, is_not_typed, is_model}
use Rattle.front_end.proofs.StageOrderLemmas.{TellsOne, IsByStage, by_stage_one, Decides, decides_one}
use Rattle.front_end.proofs.OneStageLemmas.{cut_one, IsParsed, parsed_one}

-- what is told from each stage on, from the last to the first: the model itself
abbrev FromChain : FlatText → List (Name × Constant) → Chain → Result Model Reason → Type 0
FromChain flat consts chain answer = answer ≡ Ok (record { flat = flat; consts = consts; chain = chain })

-- the chain
abbrev FromConsts : FlatText → List (Name × Constant) → Result Model Reason → Type 0
FromConsts flat consts = IsByStage (Decides (IsChainOf flat consts) (reason.Type subject.Model) (typing.IsRefused flat consts)) (FromChain flat consts)

-- the values of the constants
abbrev FromFlat : List Given → FlatText → Result Model Reason → Type 0
FromFlat given flat = IsByStage (Decides (AreConsts flat.consts (given_to given)) reason.Const (constants.IsRefused flat.consts given)) (FromConsts flat)

-- the flat text
abbrev FromTree : List Given → ModelText → Result Model Reason → Type 0
FromTree given tree = IsByStage (Decides (IsFlat tree) (reason.Expand subject.Model) (expanding.IsRefused tree)) (FromFlat given)

-- the tree
abbrev FromTokens : List Given → List Token → Result Model Reason → Type 0
FromTokens given tokens = IsByStage (IsParsed subject.Model (ParsesModel tokens)) (FromTree given)

-- the tokens
abbrev FromText : List ℕ → List Given → Result Model Reason → Type 0
FromText text given = IsByStage (CutTells subject.Model most_model_bytes text) (FromTokens given)

-- each stage tells one thing at most
from_chain : (flat : FlatText) (consts : List (Name × Constant)) (chain : Chain) → TellsOne (FromChain flat consts chain)
from_chain flat consts chain a b x y = x ∙ sym y

from_consts : (flat : FlatText) (consts : List (Name × Constant)) → TellsOne (FromConsts flat consts)
from_consts flat consts =
    by_stage_one (decides_one (reason.Type subject.Model) (λ accepted chain other. chain-once flat consts chain other) (model-refused-once flat consts))
    (from_chain flat consts)

from_flat : (given : List Given) (flat : FlatText) → TellsOne (FromFlat given flat)
from_flat given flat =
    by_stage_one
    (decides_one reason.Const (λ accepted known others. one_values flat.consts given known others accepted) (one_constant_refusal flat.consts given))
    (from_consts flat)

from_tree : (given : List Given) (tree : ModelText) → TellsOne (FromTree given tree)
from_tree given tree =
    by_stage_one (decides_one (reason.Expand subject.Model) (λ accepted flat other. one_flat tree flat other) (one_expansion_refusal tree)) (from_flat given)

parses_one : (tokens : List Token) → TellsOne (ParsesModel tokens)
parses_one tokens a b x y =
    one_answer kind.Model (IsModel (kinds tokens)) HasLongModel (IsNoText IsModel (kinds tokens)) tokens 0 (model_decided (kinds tokens)) a b x.0 y.0 x.1 y.1

from_tokens : (given : List Given) (tokens : List Token) → TellsOne (FromTokens given tokens)
from_tokens given tokens = by_stage_one (parsed_one subject.Model (parses_one tokens)) (from_tree given)

from_text : (text : List ℕ) (given : List Given) → TellsOne (FromText text given)
from_text text given = by_stage_one (cut_one subject.Model most_model_bytes text) (from_tokens given)

-- what is told of the tree of a text, is told of the text
after_tree : (text : List ℕ) (given : List Given) (tree : ModelText) (answer : Result Model Reason) → HasTree text tree → FromTree given tree answer → FromText text given answer
after_tree text given tree answer read from = record {
  first = Ok read.tokens;
  told = read.cut;
  follows = record { first = Ok tree; told = record { parsed = Ok tree; told = read.parsed; is = refl }; follows = from };
}

-- and so of its flat text
after_flat : (text : List ℕ) (given : List Given) (flat : FlatText) (answer : Result Model Reason) → HasFlat text flat → FromFlat given flat answer → FromText text given answer
after_flat text given flat answer read from =
    after_tree text given read.tree answer read.read (record { first = Ok flat; told = (read.written_out, read.accepted); follows = from })

-- the reason for which a flat text is refused is that of its stages
refused_flat : (given : List Given) (flat : FlatText) (why : Reason) → RefusesFlat flat given why → FromFlat given flat (Err why)
refused_flat given flat _ (has_no_values {fault = fault} refused) = record { first = Err (reason.Const fault); told = (fault, refl, refused); follows = refl }
refused_flat given flat _ (has_no_type {consts = consts} {fault = fault} are refused) = record {
  first = Ok consts;
  told = (are.values, are.accepted);
  follows = record { first = Err (reason.Type subject.Model fault); told = (fault, refl, refused); follows = refl };
}

-- what a text tells is told by its stages in order
by_stages : (text : List ℕ) (given : List Given) (answer : Result Model Reason) → ModelTells text given answer → FromText text given answer
by_stages text given _ (has_no_flat (is_not_cut {why = why} cut)) = record { first = Err why; told = cut; follows = refl }
by_stages text given _ (has_no_flat (is_not_parsed {tokens = tokens} {fault = fault} cut parsed)) = record {
  first = Ok tokens;
  told = cut;
  follows = record { first = Err (reason.Parse subject.Model fault); told = record { parsed = Err fault; told = parsed; is = refl }; follows = refl };
}
by_stages text given _ (has_no_flat (is_not_expanded {tree = tree} {fault = fault} read refused)) =
    after_tree text given tree (Err (reason.Expand subject.Model fault)) read
    (record { first = Err (reason.Expand subject.Model fault); told = (fault, refl, refused); follows = refl })
by_stages text given _ (is_not_typed {flat = flat} {why = why} read refused) = after_flat text given flat (Err why) read (refused_flat given flat why refused)
by_stages text given _ (is_model {model = model} is) = after_flat text given is.flat (Ok model) is.read (record {
  first = Ok model.consts;
  told = (is.model_of.consts.values, is.model_of.consts.accepted);
  follows = record {
    first = Ok model.chain;
    told = (is.model_of.chain, is.model_of.accepted);
    follows = λ i. Ok (record { flat = is.model_of.same i; consts = model.consts; chain = model.chain });
  };
})

-- so it is one thing at most
pub one_model : (text : List ℕ) (given : List Given) (a b : Result Model Reason) → ModelTells text given a → ModelTells text given b → a ≡ b
one_model text given a b x y = from_text text given a b (by_stages text given a x) (by_stages text given b y)

-- ---- the flat text alone

-- what is told of the flat text, of the tree on, of the tokens on, and of the text on
abbrev FlatFromTree : ModelText → Result FlatText Reason → Type 0
FlatFromTree tree =
    IsByStage (Decides (IsFlat tree) (reason.Expand subject.Model) (expanding.IsRefused tree)) (λ (flat : FlatText) (answer : Result FlatText Reason). answer ≡ Ok flat)

abbrev FlatFromTokens : List Token → Result FlatText Reason → Type 0
FlatFromTokens tokens = IsByStage (IsParsed subject.Model (ParsesModel tokens)) FlatFromTree

abbrev FlatFromText : List ℕ → Result FlatText Reason → Type 0
FlatFromText text = IsByStage (CutTells subject.Model most_model_bytes text) FlatFromTokens

flat_from_tree : (tree : ModelText) → TellsOne (FlatFromTree tree)
flat_from_tree tree =
    by_stage_one (decides_one (reason.Expand subject.Model) (λ accepted flat other. one_flat tree flat other) (one_expansion_refusal tree))
    (λ flat a b x y. x ∙ sym y)

flat_from_text : (text : List ℕ) → TellsOne (FlatFromText text)
flat_from_text text = by_stage_one (cut_one subject.Model most_model_bytes text) (λ tokens. by_stage_one (parsed_one subject.Model (parses_one tokens)) flat_from_tree)

flat_by_stages : (text : List ℕ) (answer : Result FlatText Reason) → FlatTells text answer → FlatFromText text answer
flat_by_stages text _ (is_not_cut {why = why} cut) = record { first = Err why; told = cut; follows = refl }
flat_by_stages text _ (is_not_parsed {tokens = tokens} {fault = fault} cut parsed) = record {
  first = Ok tokens;
  told = cut;
  follows = record { first = Err (reason.Parse subject.Model fault); told = record { parsed = Err fault; told = parsed; is = refl }; follows = refl };
}
flat_by_stages text _ (is_not_expanded {tree = tree} {fault = fault} read refused) = record {
  first = Ok read.tokens;
  told = read.cut;
  follows = record {
    first = Ok tree;
    told = record { parsed = Ok tree; told = read.parsed; is = refl };
    follows = record { first = Err (reason.Expand subject.Model fault); told = (fault, refl, refused); follows = refl };
  };
}
flat_by_stages text _ (is_flat {flat = flat} has) = record {
  first = Ok has.read.tokens;
  told = has.read.cut;
  follows = record {
    first = Ok has.tree;
    told = record { parsed = Ok has.tree; told = has.read.parsed; is = refl };
    follows = record { first = Ok flat; told = (has.written_out, has.accepted); follows = refl };
  };
}

-- so it is one thing at most
pub one_flat_told : (text : List ℕ) (a b : Result FlatText Reason) → FlatTells text a → FlatTells text b → a ≡ b
one_flat_told text a b x y = flat_from_text text a b (flat_by_stages text a x) (flat_by_stages text b y)
