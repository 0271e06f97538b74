-- Tokens begin each line of a model exactly where they are a prefix of one of its texts.
use Rattle.std.proofs.Common.{◌≡◌, ◌⊎◌, inl, inr, List, [], ◌∷◌, ◌++◌, All, Some, refl, sym, ◌∙◌, ap, subst, append-nil}
use Rattle.prism_syntax.specs.declared.labels.Labels.TheVariants.{Refused}
use Rattle.prism_syntax.specs.declared.precedence.Precedence.TheVariants as rule
use Rattle.prism_syntax.specs.declared.tokens.Kind.{Kind}
use Rattle.prism_syntax.specs.declared.tokens.Kind.TheVariants as k
use Rattle.prism_syntax.specs.declared.models.SortWord.{SortWord}
use Rattle.prism_syntax.specs.declared.models.Item.{Item}
use Rattle.prism_syntax.specs.declared.models.Item.TheVariants as item
use Rattle.prism_syntax.specs.declared.models.ModelText.{ModelText}
use Rattle.prism_syntax.specs.Expressions.{Derives}
use Rattle.prism_syntax.specs.Models.{IsConst, IsFormula, IsLabel, IsVariable, IsGlobal, IsAssign, IsUpdate, IsWeighted, IsCommand, IsPair, IsModule, IsItem, IsModel, Each, Separated, model_of}
use Rattle.prism_syntax.specs.Models as model
use Rattle.prism_reading.specs.Reach.{IsPrefix}
use Rattle.prism_reading.specs.Sequences.{IsTerminal, terminal, IsName, Both, both, OneOf}
use Rattle.prism_reading.specs.Sequences as sequence
use Rattle.prism_reading.specs.Begins.{BeginsAfter}
use Rattle.prism_reading.proofs.OverlapLemmas.{within, beyond, overlap}
use Rattle.prism_reading.proofs.DefiniteLemmas.{HasText, text_begins, nothing_begins, terminal_has, name_has, quoted_has}
use Rattle.prism_reading.proofs.BothLemmas.{both_has}
use Rattle.prism_reading.proofs.MadeLemmas.{Parted, IsMade, is_made}
use Rattle.prism_reading.proofs.EndedLemmas.{ended_made}
use Rattle.prism_reading.proofs.EachLemmas.{each_has}
use Rattle.prism_reading.proofs.BegunLemmas.{BeginsExactly, terminal_begun, name_begun, quoted_begun, both_begun, one_of_begun, made_begun, each_begun, separated_begun, after_begun}
use Rattle.prism_expression.proofs.BeginLemmas.{begins_prefix, prefix_begins}
use Rattle.prism_expression.proofs.FormedLemmas.{all_front}
use Rattle.prism_model.specs.Parts.{IsExprUntil, IsSortWord, word, sort_of, IsSorted, IsOptionalEnded, IsRange, IsActionEnded, AreBranchesEnded, IsRenaming, IsBody, EndsRewards, ends, IsPassed}
use Rattle.prism_model.specs.Begins.{BeginsNamed, BeginsExpr, BeginsUntil, BeginsOptional, BeginsSort, BeginsSorted, BeginsConst, BeginsFormula, BeginsLabel, BeginsRange, BeginsVariable, BeginsGlobal, BeginsAssign, BeginsSets, BeginsWeighted, BeginsBranches, BeginsAction, BeginsCommand, BeginsPair, BeginsRenaming, BeginsBody, BeginsModule, BeginsEnd, inside, whole, BeginsRewards, BeginsItem, BeginsModel}
use Rattle.prism_model.specs.Begins as begin
use Rattle.prism_model.proofs.ExpressionLemmas.{until_has}
use Rattle.prism_model.proofs.LineLemmas.{optional_made, const_made, formula_made, label_made, variable_made, global_made, assign_made, update_made, weighted_made, branches_made, command_made, pair_made, module_made, rewards_made}
use Rattle.prism_model.proofs.DefiniteLineLemmas.{word_has, action_has, sorted_has, optional_has, named_rest_has, variable_rest_has, variable_has, assign_end_has, update_has, renaming_has, renaming_end_has, renaming_pairs_has}
use Rattle.prism_model.proofs.BranchLemmas.{branches_has}
use Rattle.prism_model.proofs.ModuleLemmas.{guard_has, commands_has, module_rest_has}
use Rattle.prism_model.proofs.RewardsLemmas.{GoesOn, ends_has}

named_begun : {Y : Type 0} {B : List Kind → Y → Type 0} {Starts : List Kind → Type 0} → HasText B → BeginsExactly B Starts → BeginsExactly (Both IsName B) (BeginsNamed Starts)
named_begun has rest = both_begun has name_begun rest

expr_begun : BeginsExactly (Derives Refused rule.Conditional) BeginsExpr
expr_begun = record { to = λ p begins. prefix_begins begins; back = λ p begins. begins_prefix begins }

until_begun : (stop : Kind) → BeginsExactly (IsExprUntil stop) (BeginsUntil stop)
until_begun stop = made_begun (ended_made (Derives Refused rule.Conditional) stop) (both_begun (terminal_has stop) expr_begun (terminal_begun stop))

optional_begun : (lead : Kind) → BeginsExactly (IsOptionalEnded lead) (BeginsOptional lead)
optional_begun lead = made_begun (optional_made lead) (one_of_begun (after_begun lead (until_has k.Semicolon) (until_begun k.Semicolon)) (terminal_begun k.Semicolon))

-- a sort
word_begins : (t : Kind) (s : SortWord) → sort_of t ≡ Some s → BeginsSort (t ∷ [])
word_begins k.Int s is = begin.BeginsSort.int
word_begins k.Double s is = begin.BeginsSort.double
word_begins k.Bool s is = begin.BeginsSort.bool
word_begins _ s is = absurd (cc)

sort_to : (p more l : List Kind) (s : SortWord) → IsSortWord l s → l ≡ p ++ more → BeginsSort p
sort_to [] more _ s (word is) equal = begin.BeginsSort.nothing
sort_to (t ∷ []) more _ s (word {t = u} is) equal =
    let same : u ≡ t = cc in
    subst (λ v. BeginsSort (v ∷ [])) same (word_begins u s is)
sort_to (t ∷ (u ∷ p)) more _ s (word is) equal = absurd (cc)

sort_back : (p : List Kind) → BeginsSort p → IsPrefix IsSortWord p
sort_back _ begin.BeginsSort.nothing = nothing_begins word_has
sort_back _ begin.BeginsSort.int = text_begins _ (word refl)
sort_back _ begin.BeginsSort.double = text_begins _ (word refl)
sort_back _ begin.BeginsSort.bool = text_begins _ (word refl)

sort_begun : BeginsExactly IsSortWord BeginsSort
sort_begun = record { to = λ p begins. sort_to p begins.more (p ++ begins.more) begins.tree begins.text refl; back = sort_back }

sorted_begun : BeginsExactly IsSorted BeginsSorted
sorted_begun = made_begun is_made (one_of_begun (both_begun name_has sort_begun name_begun) name_begun)

const_begun : BeginsExactly IsConst BeginsConst
const_begun = made_begun const_made (after_begun k.Const (both_has sorted_has (optional_has k.Equal)) (both_begun (optional_has k.Equal) sorted_begun (optional_begun k.Equal)))

body_begun_named : BeginsExactly (Both (IsTerminal k.Equal) (IsExprUntil k.Semicolon)) (BeginsAfter k.Equal (BeginsUntil k.Semicolon))
body_begun_named = after_begun k.Equal (until_has k.Semicolon) (until_begun k.Semicolon)

formula_begun : BeginsExactly IsFormula BeginsFormula
formula_begun = made_begun formula_made (after_begun k.Formula (both_has name_has named_rest_has) (named_begun named_rest_has body_begun_named))

label_begun : BeginsExactly IsLabel BeginsLabel
label_begun = made_begun label_made (after_begun k.Label (both_has quoted_has named_rest_has) (both_begun named_rest_has quoted_begun body_begun_named))

range_begun : BeginsExactly IsRange BeginsRange
range_begun = made_begun is_made (one_of_begun
    (after_begun k.OpenBracket (both_has (until_has k.Dots) (until_has k.CloseBracket)) (both_begun (until_has k.CloseBracket) (until_begun k.Dots) (until_begun k.CloseBracket)))
    (terminal_begun k.Bool))

variable_begun : BeginsExactly IsVariable BeginsVariable
variable_begun = made_begun variable_made (named_begun (both_has (terminal_has k.Colon) variable_rest_has)
    (after_begun k.Colon variable_rest_has (both_begun (optional_has k.Init) range_begun (optional_begun k.Init))))

global_begun : BeginsExactly IsGlobal BeginsGlobal
global_begun = made_begun global_made (after_begun k.Global variable_has variable_begun)

assign_begun : BeginsExactly IsAssign BeginsAssign
assign_begun = made_begun assign_made (after_begun k.Open (both_has name_has (both_has (terminal_has k.Prime) assign_end_has))
    (named_begun (both_has (terminal_has k.Prime) assign_end_has) (after_begun k.Prime assign_end_has (after_begun k.Equal (until_has k.Close) (until_begun k.Close)))))

update_begun : BeginsExactly IsUpdate BeginsSets
update_begun = made_begun update_made (one_of_begun (terminal_begun k.True) (separated_begun k.Ampersand assign_begun))

weighted_begun : BeginsExactly IsWeighted BeginsWeighted
weighted_begun = made_begun weighted_made (both_begun update_has (until_begun k.Colon) update_begun)

branches_begun : BeginsExactly AreBranchesEnded BeginsBranches
branches_begun = made_begun branches_made (one_of_begun (both_begun (terminal_has k.Semicolon) update_begun (terminal_begun k.Semicolon))
    (both_begun (terminal_has k.Semicolon) (separated_begun k.Plus weighted_begun) (terminal_begun k.Semicolon)))

action_begun : BeginsExactly IsActionEnded BeginsAction
action_begun = made_begun is_made (one_of_begun (named_begun (terminal_has k.CloseBracket) (terminal_begun k.CloseBracket)) (terminal_begun k.CloseBracket))

command_begun : BeginsExactly IsCommand BeginsCommand
command_begun = made_begun command_made (after_begun k.OpenBracket (both_has action_has guard_has)
    (both_begun guard_has action_begun (both_begun branches_has (until_begun k.Arrow) branches_begun)))

pair_begun : BeginsExactly IsPair BeginsPair
pair_begun = made_begun pair_made (named_begun (both_has (terminal_has k.Equal) name_has) (after_begun k.Equal name_has name_begun))

renaming_begun : BeginsExactly IsRenaming BeginsRenaming
renaming_begun = made_begun is_made (named_begun (both_has (terminal_has k.OpenBracket) renaming_pairs_has)
    (after_begun k.OpenBracket renaming_pairs_has (both_begun renaming_end_has (separated_begun k.Comma pair_begun) (after_begun k.CloseBracket (terminal_has k.EndModule) (terminal_begun k.EndModule)))))

body_begun : BeginsExactly IsBody BeginsBody
body_begun = made_begun is_made (both_begun commands_has (each_begun variable_begun) (both_begun (terminal_has k.EndModule) (each_begun command_begun) (terminal_begun k.EndModule)))

module_begun : BeginsExactly IsModule BeginsModule
module_begun = made_begun module_made (after_begun k.Module (both_has name_has module_rest_has)
    (named_begun module_rest_has (one_of_begun (after_begun k.Equal renaming_has renaming_begun) body_begun)))

-- a rewards block
ends_to : (p more l : List Kind) (x : Unit {0}) → EndsRewards l x → l ≡ p ++ more → BeginsEnd p
ends_to p more _ _ (ends a none) equal =
    elim (overlap p more a (k.EndRewards ∷ []) (sym equal)) [
      | within [] is rest ↦ subst BeginsEnd (sym (is ∙ append-nil a)) (inside a none)
      | within (t ∷ []) is rest ↦
          let same : t ≡ k.EndRewards = cc in
          subst BeginsEnd (sym (is ∙ ap (λ u. a ++ (u ∷ [])) same)) (whole a none)
      | within (t ∷ (u ∷ m)) is rest ↦ absurd (cc)
      | beyond t m is rest ↦ inside p (all_front GoesOn p (t ∷ m) (subst (All GoesOn) is none))
    ]

ends_back : (p : List Kind) → BeginsEnd p → IsPrefix EndsRewards p
ends_back _ (inside a none) = record { more = k.EndRewards ∷ []; tree = tt; text = ends a none }
ends_back _ (whole a none) = text_begins tt (ends a none)

rewards_begun : BeginsExactly IsPassed BeginsRewards
rewards_begun = made_begun rewards_made (after_begun k.Rewards ends_has (record { to = λ p begins. ends_to p begins.more (p ++ begins.more) begins.tree begins.text refl; back = ends_back }))

-- an item
at : {X : Type 0} {Rule : List Kind → X → Type 0} (p more l : List Kind) (x : X) → Rule l x → l ≡ p ++ more → IsPrefix Rule p
at {Rule} p more l x text equal = record { more = more; tree = x; text = subst (λ m. Rule m x) equal text }

item_to : (p more l : List Kind) (z : Item) → IsItem l z → l ≡ p ++ more → BeginsItem p
item_to p more l _ (model.IsItem.const {c} text) equal = inl (const_begun.to p (at p more l c text equal))
item_to p more l _ (model.IsItem.global {v} text) equal = inr (inl (global_begun.to p (at p more l v text equal)))
item_to p more l _ (model.IsItem.formula {f} text) equal = inr (inr (inl (formula_begun.to p (at p more l f text equal))))
item_to p more l _ (model.IsItem.«module» {m} text) equal = inr (inr (inr (inl (module_begun.to p (at p more l m text equal)))))
item_to p more l _ (model.IsItem.label {f} text) equal = inr (inr (inr (inr (inl (label_begun.to p (at p more l f text equal))))))
item_to p more l _ (model.IsItem.rewards text) equal = inr (inr (inr (inr (inr (rewards_begun.to p (at {Rule = IsPassed} p more l tt text equal))))))

made_item : {X : Type 0} {Rule : List Kind → X → Type 0} {p : List Kind} (make : X → Item) → ((a : List Kind) (x : X) → Rule a x → IsItem a (make x)) → IsPrefix Rule p → IsPrefix IsItem p
made_item {p} make to begins = record { more = begins.more; tree = make begins.tree; text = to (p ++ begins.more) begins.tree begins.text }

item_back : (p : List Kind) → BeginsItem p → IsPrefix IsItem p
item_back p (inl begins) = made_item item.Const (λ a c text. model.IsItem.const text) (const_begun.back p begins)
item_back p (inr (inl begins)) = made_item item.Global (λ a c text. model.IsItem.global text) (global_begun.back p begins)
item_back p (inr (inr (inl begins))) = made_item item.Formula (λ a c text. model.IsItem.formula text) (formula_begun.back p begins)
item_back p (inr (inr (inr (inl begins)))) = made_item item.Module (λ a c text. model.IsItem.«module» text) (module_begun.back p begins)
item_back p (inr (inr (inr (inr (inl begins))))) = made_item item.Label (λ a c text. model.IsItem.label text) (label_begun.back p begins)
item_back p (inr (inr (inr (inr (inr begins))))) = made_item (λ nothing. item.Rewards) (λ a c text. model.IsItem.rewards text) (rewards_begun.back p begins)

item_begun : BeginsExactly IsItem BeginsItem
item_begun = record { to = λ p begins. item_to p begins.more (p ++ begins.more) begins.tree begins.text refl; back = item_back }

-- a model
abbrev pub ModelParts : List Kind → (Unit {0} ⊎ Unit {0}) × List Item → Type 0
ModelParts = Both (OneOf (IsTerminal k.Dtmc) (IsTerminal k.Probabilistic)) (Each IsItem)

abbrev pub whole_model : (Unit {0} ⊎ Unit {0}) × List Item → ModelText
whole_model p = model_of p.1

model_to : (a : List Kind) (p : (Unit {0} ⊎ Unit {0}) × List Item) → ModelParts a p → IsModel a (whole_model p)
model_to _ _ (both (sequence.first terminal) items) = model.IsModel.dtmc items
model_to _ _ (both (sequence.second terminal) items) = model.IsModel.probabilistic items

model_back : (a : List Kind) (z : ModelText) → IsModel a z → Parted ModelParts whole_model a z
model_back _ _ (model.IsModel.dtmc {items} text) = record { parts = (inl tt, items); text = both (sequence.first terminal) text; is = refl }
model_back _ _ (model.IsModel.probabilistic {items} text) = record { parts = (inr tt, items); text = both (sequence.second terminal) text; is = refl }

model_made : IsMade ModelParts whole_model IsModel
model_made = record { to = model_to; back = model_back }

pub model_begun : BeginsExactly IsModel BeginsModel
model_begun = made_begun model_made (both_begun each_has (one_of_begun (terminal_begun k.Dtmc) (terminal_begun k.Probabilistic)) (each_begun item_begun))
