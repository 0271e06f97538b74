-- A text of a property tells one thing at most over a model.
use Rattle.std.proofs.Common.{◌≡◌, ℕ, List, refl, sym, ◌∙◌, subst}
use Rattle.std.specs.Prelude.{Result, Ok, Err}
use Rattle.chain_model.specs.declared.job.Path.{Path}
use Rattle.chain_model.specs.declared.job.Claim.{Claim}
use Rattle.chain_model.specs.Limits.{most_property_bytes}
use Rattle.prism_syntax.specs.declared.tokens.Token.{Token}
use Rattle.prism_syntax.specs.declared.properties.Property.{Property}
use Rattle.prism_syntax.specs.Tokens.{kinds}
use Rattle.prism_syntax.specs.Properties.{IsProperty}
use Rattle.prism_limits.specs.declared.kinds.TextKind.TheVariants as kind
use Rattle.prism_parser.specs.Outcome.{IsNoText}
use Rattle.prism_parser.proofs.OutcomeLemmas.{one_answer}
use Rattle.prop_parser.specs.Properties.{HasLongProperty}
use Rattle.prop_parser.proofs.WholeLemmas.{property_decided}
use Rattle.module_expand.specs.declared.fault.ExpandFault.{ExpandFault}
use Rattle.module_expand.specs.declared.fault.ExpandFault.TheVariants.{TooLarge}
use Rattle.module_expand.specs.Listed.{AreTooLarge}
use Rattle.module_expand.specs.Properties.{property_exprs}
use Rattle.typed_trees.specs.Leaves.{constant_leaf, leaf_of}
use Rattle.typed_trees.specs.Trees.{tree_of, no_label}
use Rattle.typed_trees.specs.Numbers.{constant_value}
use Rattle.typecheck.specs.Paths.{IsPathOf, sorts_of_variables, label_leaf}
use Rattle.typecheck.specs.PathRefusals.{IsRefusedProperty}
use Rattle.typecheck.proofs.OneLemmas.{typed-once}
use Rattle.typecheck.proofs.RefusalLemmas.{refused-once}
use Rattle.smc_report.specs.declared.reason.Reason.{Reason}
use Rattle.smc_report.specs.declared.reason.Reason.TheVariants as reason
use Rattle.smc_report.specs.declared.reason.Subject.TheVariants as subject
use Rattle.front_end.specs.declared.models.Model.{Model}
use Rattle.front_end.specs.Stages.{CutTells, ParsesProperty}
use Rattle.front_end.specs.Properties.{HasTree, HasFlat, PropertyTells, flat_in, is_not_cut, is_not_parsed, is_too_large, has_no_type, is_question}
use Rattle.front_end.proofs.StageOrderLemmas.{TellsOne, IsByStage, by_stage_one, Decides, decides_one}
use Rattle.front_end.proofs.OneStageLemmas.{cut_one, IsParsed, parsed_one}

-- a path formula and what is claimed
abbrev Question : Type 0
Question = Path × Claim

-- a question is that of a property without formulas
abbrev IsQuestionOf : Model → Property → Question → Type 0
IsQuestionOf model flat question = IsPathOf model.consts model.chain flat question.0 question.1

-- a property is too large without formulas, and the fault tells it
abbrev TellsSize : Model → Property → ExpandFault → Type 0
TellsSize model tree fault = (fault ≡ TooLarge) × AreTooLarge (property_exprs (flat_in model tree))

-- what is told from each stage on, from the last to the first: the question itself
abbrev FromQuestion : Question → Result Question Reason → Type 0
FromQuestion question answer = answer ≡ Ok question

-- the question
abbrev FromFlat : Model → Property → Result Question Reason → Type 0
FromFlat model flat = IsByStage (Decides (IsQuestionOf model flat) (reason.Type subject.Property) (IsRefusedProperty model.consts model.chain flat)) FromQuestion

-- the property without formulas
abbrev FromTree : Model → Property → Result Question Reason → Type 0
FromTree model tree = IsByStage (Decides (λ flat. flat ≡ flat_in model tree) (reason.Expand subject.Property) (TellsSize model tree)) (FromFlat model)

-- the tree
abbrev FromTokens : Model → List Token → Result Question Reason → Type 0
FromTokens model tokens = IsByStage (IsParsed subject.Property (ParsesProperty tokens)) (FromTree model)

-- the tokens
abbrev FromText : List ℕ → Model → Result Question Reason → Type 0
FromText text model = IsByStage (CutTells subject.Property most_property_bytes text) (FromTokens model)

-- each stage tells one thing at most
from_question : (question : Question) → TellsOne (FromQuestion question)
from_question question a b x y = x ∙ sym y

question_one : (model : Model) (flat : Property) → TellsOne (IsQuestionOf model flat)
question_one model flat a b x y =
    let same : (a.0 ≡ b.0) × (a.1 ≡ b.1) = typed-once (leaf_of model.consts (sorts_of_variables model.chain.vars)) (label_leaf model.chain.labels) (constant_value model.consts) flat a.0 b.0 a.1 b.1 x y in
    λ i. (same.0 i, same.1 i)

property_refused_once : (model : Model) (flat : Property) → TellsOne (IsRefusedProperty model.consts model.chain flat)
property_refused_once model flat =
    refused-once (tree_of (constant_leaf model.consts) no_label) (tree_of (leaf_of model.consts (sorts_of_variables model.chain.vars)) (label_leaf model.chain.labels))
    (constant_leaf model.consts) (leaf_of model.consts (sorts_of_variables model.chain.vars)) (label_leaf model.chain.labels) (constant_value model.consts) flat

from_flat : (model : Model) (flat : Property) → TellsOne (FromFlat model flat)
from_flat model flat =
    by_stage_one (decides_one (reason.Type subject.Property) (λ accepted. question_one model flat) (property_refused_once model flat)) from_question

from_tree : (model : Model) (tree : Property) → TellsOne (FromTree model tree)
from_tree model tree =
    by_stage_one
    (decides_one (reason.Expand subject.Property) {Refuses = TellsSize model tree} (λ accepted flat other x y. x ∙ sym y) (λ f g x y. x.0 ∙ sym y.0))
    (from_flat model)

parses_one : (tokens : List Token) → TellsOne (ParsesProperty tokens)
parses_one tokens a b x y =
    one_answer kind.Property (IsProperty (kinds tokens)) HasLongProperty (IsNoText IsProperty (kinds tokens)) tokens 0 (property_decided (kinds tokens)) a b x.0 y.0 x.1 y.1

from_tokens : (model : Model) (tokens : List Token) → TellsOne (FromTokens model tokens)
from_tokens model tokens = by_stage_one (parsed_one subject.Property (parses_one tokens)) (from_tree model)

from_text : (text : List ℕ) (model : Model) → TellsOne (FromText text model)
from_text text model = by_stage_one (cut_one subject.Property most_property_bytes text) (from_tokens model)

-- what is told of the tree of a text, is told of the text
after_tree : (text : List ℕ) (model : Model) (tree : Property) (answer : Result Question Reason) → HasTree text tree → FromTree model tree answer → FromText text model answer
after_tree text model tree answer read from = record {
  first = Ok read.tokens;
  told = read.cut;
  follows = record { first = Ok tree; told = record { parsed = Ok tree; told = read.parsed; is = refl }; follows = from };
}

-- and so of the property without formulas
after_flat : (text : List ℕ) (model : Model) (flat : Property) (answer : Result Question Reason) → HasFlat text model flat → FromFlat model flat answer → FromText text model answer
after_flat text model flat answer read from =
    after_tree text model read.tree answer read.read (record {
      first = Ok flat;
      told = (read.written_out, λ fault told. read.within (subst (λ p. AreTooLarge (property_exprs p)) (sym read.written_out) told.1));
      follows = from;
    })

-- what a text tells is told by its stages in order
by_stages : (text : List ℕ) (model : Model) (answer : Result Question Reason) → PropertyTells text model answer → FromText text model answer
by_stages text model _ (is_not_cut {why = why} cut) = record { first = Err why; told = cut; follows = refl }
by_stages text model _ (is_not_parsed {tokens = tokens} {fault = fault} cut parsed) = record {
  first = Ok tokens;
  told = cut;
  follows = record { first = Err (reason.Parse subject.Property fault); told = record { parsed = Err fault; told = parsed; is = refl }; follows = refl };
}
by_stages text model _ (is_too_large {tree = tree} read large) =
    after_tree text model tree (Err (reason.Expand subject.Property TooLarge)) read
    (record { first = Err (reason.Expand subject.Property TooLarge); told = (TooLarge, refl, (refl, large)); follows = refl })
by_stages text model _ (has_no_type {flat = flat} {fault = fault} read refused) =
    after_flat text model flat (Err (reason.Type subject.Property fault)) read
    (record { first = Err (reason.Type subject.Property fault); told = (fault, refl, refused); follows = refl })
by_stages text model _ (is_question {question = question} is) =
    after_flat text model is.flat (Ok question) is.read (record { first = Ok question; told = (is.path, is.accepted); follows = refl })

-- so it is one thing at most
pub one_property : (text : List ℕ) (model : Model) (a b : Result (Path × Claim) Reason) → PropertyTells text model a → PropertyTells text model b → a ≡ b
one_property text model a b x y = from_text text model a b (by_stages text model a x) (by_stages text model b y)
